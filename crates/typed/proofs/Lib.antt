-- The laws of `typed`.
pub mod Laws
pub mod OpenLaws
