-- Laws behind the checks of `cases`.
pub mod SeenLaws
