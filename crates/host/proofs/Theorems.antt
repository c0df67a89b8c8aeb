-- "Each public function's contract determines its answer and every lent word afterwards" (01), of the C functions: two ends of one call on a store that
-- our calls have left are equal; of an opening, on any words. Where a number names nothing or `says` is too short, the contract itself has the answer and says
-- that every word is as it was. Assumes nothing.
use mathlib.Core.Path.{◌≡◌, sym, ap, ◌∙◌}
use mathlib.Core.List.{List}
use Prim.Native.Nat.{ℕ}
use Rattle.model.specs.Events.{Opening, State}
use Rattle.model.specs.Calls.{Call, Reply}
use Rattle.store.specs.Stores.{Held}
use Rattle.store.specs.Promises.{number}
use Rattle.partner.specs.Runs.{Fits64}
use Rattle.partner.proofs.OneStore.{HeldTo-one}
use Rattle.partner.proofs.Theorems.{one_opening}
use Rattle.host.specs.Host.{first_of, words_of, Opened, Done, Recorded, Asked}

pub one_Opened : (o : Opening) (s : List ℕ) (k k' : ℕ) (t t' : List ℕ) → Fits64 t → Fits64 t' → Opened o s k t → Opened o s k' t' → (k ≡ k') × (t ≡ t')
one_Opened o s k k' t t' f f' a b =
    let e = one_opening o s a.reply b.reply t t' f f' a.opens b.opens in
    (a.number_is ∙ ap number e.0 ∙ sym b.number_is, e.1)

module _ (c : Call) (m : State) (s : List ℕ) (h : Held m s) (k k' : ℕ) where
  pub one_Done : (t t' : List ℕ) → Fits64 t → Fits64 t' → Done c s k t → Done c s k' t' → (k ≡ k') × (t ≡ t')
  one_Done t t' f f' a b = (
    a.number_is ∙ ap number (a.meets.answers.meaning m h ∙ sym (b.meets.answers.meaning m h)) ∙ sym b.number_is,
    HeldTo-one _ s t t' f f' (a.meets.becomes m h) (b.meets.becomes m h),
  )

  pub one_Recorded : (v : ℕ) (t t' : List ℕ) (w w' : ℕ) → Fits64 t → Fits64 t' → Recorded c s v k t w → Recorded c s v k' t' w' → (k ≡ k') × (t ≡ t') × (w ≡ w')
  one_Recorded v t t' w w' f f' a b =
      let e : a.reply ≡ b.reply = a.meets.answers.meaning m h ∙ sym (b.meets.answers.meaning m h) in (
        a.number_is ∙ ap number e ∙ sym b.number_is,
        HeldTo-one _ s t t' f f' (a.meets.becomes m h) (b.meets.becomes m h),
        a.first_is ∙ ap (λ (r : Reply). first_of r v) e ∙ sym b.first_is,
      )

  pub one_Asked : (v w w' : List ℕ) → Asked c s v k w → Asked c s v k' w' → (k ≡ k') × (w ≡ w')
  one_Asked v w w' a b =
      let e : a.reply ≡ b.reply = a.answers.meaning m h ∙ sym (b.answers.meaning m h) in
      (a.number_is ∙ ap number e ∙ sym b.number_is, a.words_are ∙ ap (λ (r : Reply). words_of r v) e ∙ sym b.words_are)
