-- `store::header::check` meets its contract: what `frame_sizes` and `sized` told, and the form is one of two. Assumes nothing.
use Rattle.history.specs.Sizes.{form_of}
use Rattle.store.specs.Stores.{form_code}
use Rattle.store.proofs.SizeLaws.{no_form, too_wide, sliced-Narrow}
use Rattle.store.proofs.header.check.Goals as goal
use Rattle.store.proofs.header.check.Goals.{else-form-eq1-via-then-form-eq1+else-n-le32, else-form-eq1-via-else-form-eq1}

pub sized-requires : goal.sized-requires
unfolding form_code form_of
sized-requires c = (c.in_ok-n.ensures, c.if-form-eq0.true, tt)

pub sized-requires-then-n-le32 : goal.sized-requires-then-n-le32
unfolding form_code form_of
sized-requires-then-n-le32 c = (c.in_ok-n.ensures, c.if-form-eq1.true, sliced-Narrow _ _ c.args.s.now c.in_ok-n.ensures c.if-n-le32.true)

pub returns-else-form-eq1 : goal.returns-else-form-eq1
returns-else-form-eq1 c =
    let f = c.in_ok-n.ensures in (
      f.enough,
      λ m h. elim c.else-form-eq1.branch [
        | else-form-eq1-via-then-form-eq1+else-n-le32 w ↦ too_wide c.args.s.now m h _ f.word w.if-form-eq1.true w.if-n-le32.false
        | else-form-eq1-via-else-form-eq1 w ↦ no_form c.args.s.now m h c.if-form-eq0.false w.if-form-eq1.false
      ],
    )
