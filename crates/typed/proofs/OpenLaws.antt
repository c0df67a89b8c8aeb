-- When each refusal of an opening comes: the definition's tests, one after the other, as 01's sizes.
use mathlib.Core.Path.{◌≡◌, refl, sym, ap, ◌∙◌}
use mathlib.Core.Bool.{Bool, true, false, cond, not, ◌||◌, true≢false}
use mathlib.Core.List.{List}
use Prim.Native.Nat.{ℕ, ◌*◌, ◌^◌, ◌≤◌, ◌<◌}
use native.Mathlib.Omega.{arith}
use lib.ListN.{length}
use lib.Dec.{eqb, ltb}
use borrow.Author.Tests.{eqb-true, eqb-false, eq-eqb, ne_eqb, ltb-false, le-ltb}
use Rattle.std.specs.Prelude.{Result, Ok, Err, IsOk, IsErrOf, ◌↔◌}
use Rattle.model.specs.Events.{Opening, words}
use Rattle.model.specs.Store.{need}
use Rattle.model.specs.Calls.{is_too_wide, open_number, open_answer, opening, accepted, refused}
use Rattle.history.specs.Sizes.{form_of}
use Rattle.history.specs.declared.forms.Form.{Form}
use Rattle.history.specs.declared.forms.Form.TheVariants.{Scalar, Sliced}
use Rattle.store.specs.declared.refusals.OpenError.{OpenError}
use Rattle.store.specs.declared.refusals.OpenError.TheVariants.{Sizes, Events, TooShort}
use Rattle.store.specs.Refusals.{open_code_of, open_number_of}
use Rattle.store.specs.Promises.{told_open, Opens}
use Rattle.typed.specs.declared.stores.Plan.{Plan}
use Rattle.typed.specs.Openings.{opening_by, FitsSizes, FitsEvents, FitsWords}

-- ---- the tests

or_false : (a b : Bool) → ((a || b) ≡ false) ↔ ((a ≡ false) × (b ≡ false))
or_false true b = ((λ h. absurd (true≢false h)), (λ h. absurd (true≢false h.0)))
or_false false b = ((λ h. (refl, h)), (λ h. h.1))

not_false : (a : Bool) → (not a ≡ false) ↔ (a ≡ true)
not_false true = ((λ h. refl), (λ h. refl))
not_false false = ((λ h. absurd (true≢false h)), (λ h. absurd (true≢false (sym h))))

-- a test that is false where a fact holds is true where it does not
denied : (a : Bool) (P : Type 0) → ((a ≡ false) ↔ P) → (a ≡ true) ↔ (¬ P)
denied true P f = ((λ h p. absurd (true≢false (f.1 p))), (λ h. refl))
denied false P f = ((λ h. absurd (true≢false (sym h))), (λ h. absurd (h (f.0 refl))))

below : (a b : ℕ) → (ltb a b ≡ false) ↔ (b ≤ a)
below a b = (ltb-false a b, le-ltb a b)

some : (n : ℕ) → (eqb n 0 ≡ false) ↔ (1 ≤ n)
some n = ((λ h. let z = eqb-false n 0 h in omega arith), (λ h. ne_eqb n 0 (λ e. omega arith)))

narrow : (f : Form) (n : ℕ) → (is_too_wide (form_of f) n ≡ false) ↔ (f ≡ Sliced → n ≤ 32)
unfolding is_too_wide form_of
narrow Scalar n = ((λ h e. cc), (λ h. refl))
narrow Sliced n = ((λ h e. ltb-false 32 n h), (λ h. le-ltb 32 n (h refl)))

abbrev bad_sizes : Plan → Bool
bad_sizes p = eqb p.qubits 0 || ltb (2 ^ 25) (4 * p.qubits * words p.qubits) || ltb (2 ^ 20) p.steps || is_too_wide (form_of p.form) p.qubits

abbrev bad_events : Plan → Bool
bad_events p = eqb p.events 0 || ltb (2 ^ 25) (2 * words p.qubits * p.events)

abbrev bad_words : Plan → (labels words : List ℕ) → Bool
bad_words p ls s = not (eqb (length ls) (4 * p.qubits)) || ltb (length s) (need p.qubits p.events (form_of p.form))

sizes_fit : (p : Plan) → (bad_sizes p ≡ false) ↔ FitsSizes p
sizes_fit p =
    let a = eqb p.qubits 0 in
    let b = ltb (2 ^ 25) (4 * p.qubits * words p.qubits) in
    let c = ltb (2 ^ 20) p.steps in
    let d = is_too_wide (form_of p.form) p.qubits in
    let o = or_false (a || b || c) d in
    let o' = or_false (a || b) c in
    let o'' = or_false a b in
    let e = some p.qubits in
    let f = below (2 ^ 25) (4 * p.qubits * words p.qubits) in
    let g = below (2 ^ 20) p.steps in
    let i = narrow p.form p.qubits in (
      (λ h. let z = o.0 h in let y = o'.0 z.0 in let x = o''.0 y.0 in record { some = e.0 x.0; rows = f.0 x.1; steps = g.0 y.1; sliced = i.0 z.1 }),
      (λ q. o.1 (o'.1 (o''.1 (e.1 q.some, f.1 q.rows), g.1 q.steps), i.1 q.sliced)),
    )

events_fit : (p : Plan) → (bad_events p ≡ false) ↔ FitsEvents p
events_fit p =
    let o = or_false (eqb p.events 0) (ltb (2 ^ 25) (2 * words p.qubits * p.events)) in
    let a = some p.events in
    let b = below (2 ^ 25) (2 * words p.qubits * p.events) in
    ((λ h. let z = o.0 h in record { some = a.0 z.0; axes = b.0 z.1 }), (λ f. o.1 (a.1 f.some, b.1 f.axes)))

words_fit : (p : Plan) (ls s : List ℕ) → (bad_words p ls s ≡ false) ↔ FitsWords p ls s
words_fit p ls s =
    let o = or_false (not (eqb (length ls) (4 * p.qubits))) (ltb (length s) (need p.qubits p.events (form_of p.form))) in
    let a = not_false (eqb (length ls) (4 * p.qubits)) in
    let b = below (length s) (need p.qubits p.events (form_of p.form)) in
    ((λ h. let z = o.0 h in record { labels_given = eqb-true _ _ (a.0 z.0); long = b.0 z.1 }), (λ f. o.1 (a.1 (eq-eqb _ _ f.labels_given), b.1 f.long)))

-- ---- their order

abbrev chain : (a b c : Bool) → ℕ
chain a b c = cond a 1 (cond b 2 (cond c 3 0))

answer_is : (p : Plan) (ls s : List ℕ) → open_answer (opening_by p ls s) ≡ chain (bad_sizes p) (bad_events p) (bad_words p ls s)
unfolding open_answer open_number opening
answer_is p ls s = refl

chain_none : (a b c : Bool) → (chain a b c ≡ 0) ↔ ((a ≡ false) × (b ≡ false) × (c ≡ false))
chain_none true b c = ((λ h. absurd (omega arith)), (λ h. absurd (true≢false h.0)))
chain_none false true c = ((λ h. absurd (omega arith)), (λ h. absurd (true≢false h.1)))
chain_none false false true = ((λ h. absurd (omega arith)), (λ h. absurd (true≢false h.2)))
chain_none false false false = ((λ h. (refl, refl, refl)), (λ h. refl))

chain_one : (a b c : Bool) → (chain a b c ≡ 1) ↔ (a ≡ true)
chain_one true b c = ((λ h. refl), (λ h. refl))
chain_one false true c = ((λ h. absurd (omega arith)), (λ h. absurd (true≢false (sym h))))
chain_one false false true = ((λ h. absurd (omega arith)), (λ h. absurd (true≢false (sym h))))
chain_one false false false = ((λ h. absurd (omega arith)), (λ h. absurd (true≢false (sym h))))

chain_two : (a b c : Bool) → (chain a b c ≡ 2) ↔ ((a ≡ false) × (b ≡ true))
chain_two true b c = ((λ h. absurd (omega arith)), (λ h. absurd (true≢false h.0)))
chain_two false true c = ((λ h. (refl, refl)), (λ h. refl))
chain_two false false true = ((λ h. absurd (omega arith)), (λ h. absurd (true≢false (sym h.1))))
chain_two false false false = ((λ h. absurd (omega arith)), (λ h. absurd (true≢false (sym h.1))))

chain_three : (a b c : Bool) → (chain a b c ≡ 3) ↔ ((a ≡ false) × (b ≡ false) × (c ≡ true))
chain_three true b c = ((λ h. absurd (omega arith)), (λ h. absurd (true≢false h.0)))
chain_three false true c = ((λ h. absurd (omega arith)), (λ h. absurd (true≢false h.1)))
chain_three false false true = ((λ h. (refl, refl, refl)), (λ h. refl))
chain_three false false false = ((λ h. absurd (omega arith)), (λ h. absurd (true≢false (sym h.2))))

-- ---- the result

ok_is : (x : Result Unit OpenError) → (open_number_of x ≡ 0) ↔ IsOk x
ok_is (Ok u) = ((λ h. refl), (λ h. refl))
ok_is (Err Sizes) = ((λ h. absurd (omega arith)), (λ h. absurd (true≢false (sym h))))
ok_is (Err Events) = ((λ h. absurd (omega arith)), (λ h. absurd (true≢false (sym h))))
ok_is (Err TooShort) = ((λ h. absurd (omega arith)), (λ h. absurd (true≢false (sym h))))

error_at : (k : ℕ) → OpenError
error_at k = cond (eqb k 1) Sizes (cond (eqb k 2) Events TooShort)

at_code : (e : OpenError) → error_at (open_code_of e) ≡ e
unfolding error_at
at_code Sizes = refl
at_code Events = refl
at_code TooShort = refl

code_some : (e : OpenError) → 1 ≤ open_code_of e
code_some Sizes = omega arith
code_some Events = omega arith
code_some TooShort = omega arith

err_is : (x : Result Unit OpenError) (e : OpenError) → (open_number_of x ≡ open_code_of e) ↔ IsErrOf x e
err_is (Ok u) e = ((λ h. absurd (omega (arith, code_some e, h))), (λ h. cc))
err_is (Err d) e = ((λ h. ap Err (sym (at_code d) ∙ ap error_at h ∙ at_code e)), (λ h. ap open_number_of h))

pub answer_of : (o : Opening) (s t : List ℕ) (x : Result Unit OpenError) → Opens o s (told_open x) t → open_answer o ≡ open_number_of x
answer_of o s t (Ok u) p = go (eqb (open_answer o) 0) refl p.answer
  where
    go : (b : Bool) → eqb (open_answer o) 0 ≡ b → accepted ≡ cond b accepted (refused (open_answer o)) → open_answer o ≡ 0
    go true e h = eqb-true (open_answer o) 0 e
    go false e h = cc
answer_of o s t (Err d) p = go (eqb (open_answer o) 0) p.answer
  where
    go : (b : Bool) → refused (open_code_of d) ≡ cond b accepted (refused (open_answer o)) → open_answer o ≡ open_code_of d
    go true h = cc
    go false h = cc

module _ (p : Plan) (ls s : List ℕ) (x : Result Unit OpenError) (h : open_answer (opening_by p ls s) ≡ open_number_of x) where
  is : open_number_of x ≡ chain (bad_sizes p) (bad_events p) (bad_words p ls s)
  is = sym h ∙ answer_is p ls s

  pub fits : IsOk x ↔ (FitsSizes p × FitsEvents p × FitsWords p ls s)
  fits =
      let o = ok_is x in
      let f = chain_none (bad_sizes p) (bad_events p) (bad_words p ls s) in
      let a = sizes_fit p in let b = events_fit p in let c = words_fit p ls s in
      ((λ q. let z = f.0 (sym is ∙ o.1 q) in (a.0 z.0, b.0 z.1, c.0 z.2)), (λ q. o.0 (is ∙ f.1 (a.1 q.0, b.1 q.1, c.1 q.2))))

  pub bad_size : IsErrOf x Sizes ↔ (¬ FitsSizes p)
  bad_size =
      let e = err_is x Sizes in
      let f = chain_one (bad_sizes p) (bad_events p) (bad_words p ls s) in
      let a = denied _ _ (sizes_fit p) in
      ((λ q. a.0 (f.0 (sym is ∙ e.1 q))), (λ q. e.0 (is ∙ f.1 (a.1 q))))

  pub bad_room : IsErrOf x Events ↔ (FitsSizes p × (¬ FitsEvents p))
  bad_room =
      let e = err_is x Events in
      let f = chain_two (bad_sizes p) (bad_events p) (bad_words p ls s) in
      let a = sizes_fit p in let b = denied _ _ (events_fit p) in
      ((λ q. let z = f.0 (sym is ∙ e.1 q) in (a.0 z.0, b.0 z.1)), (λ q. e.0 (is ∙ f.1 (a.1 q.0, b.1 q.1))))

  pub short : IsErrOf x TooShort ↔ (FitsSizes p × FitsEvents p × (¬ FitsWords p ls s))
  short =
      let e = err_is x TooShort in
      let f = chain_three (bad_sizes p) (bad_events p) (bad_words p ls s) in
      let a = sizes_fit p in let b = events_fit p in let c = denied _ _ (words_fit p ls s) in
      ((λ q. let z = f.0 (sym is ∙ e.1 q) in (a.0 z.0, b.0 z.1, c.0 z.2)), (λ q. e.0 (is ∙ f.1 (a.1 q.0, b.1 q.1, c.1 q.2))))
