-- What a call finds in the header before it does anything. Assumes nothing.
use Rattle.std.specs.Prelude.{◌≡◌, ◌⊎◌, List, ℕ, ◌+◌, ◌^◌, ◌≤◌, ◌<◌, length, get_or, cond, eqb}
use Rattle.model.specs.Events.{Form, State, words}
use Rattle.history.specs.Words.{history_room}
use Rattle.history.specs.Sizes.{form_of, Narrow}
use Rattle.history.specs.declared.layout.Layout.{Layout}
use Rattle.history.specs.declared.forms.Form as forms
use Rattle.history.specs.declared.forms.Form.TheVariants as variants
use Rattle.store.specs.declared.header.Sizes.{Sizes}
use Rattle.store.specs.declared.refusals.Refusal.{Refusal}
use Rattle.store.specs.declared.refusals.Refusal.TheVariants as refusal
use Rattle.store.specs.Stores.{history_place, form_code, Stored}

-- the slice is not too short
pub record Enough (s : List ℕ) : Type 0 where
  pub header : 14 ≤ length s
  pub size : get_or s 0 0 ≤ length s

-- the sizes as one value, from each of them
abbrev pub sizes : (n l : ℕ) → forms.Form → (cap allowance at end : ℕ) → Sizes
sizes n l form cap allowance at end = record { n = n; l = l; form = form; cap = cap; allowance = allowance; at = at; end = end }

-- the header's n and l, and frames of that size are there
pub record Framing (n l : ℕ) (s : List ℕ) : Type 0 where
  pub enough : Enough s
  pub some : 1 ≤ n
  pub few : n ≤ 23168
  pub planes : l ≡ words n
  pub word : get_or s 1 0 ≡ n
  pub fits : history_place n l ≤ length s

-- the header's sizes, each in its range, and all their words are there (an opening asks besides that 2lE is at most 2^25)
pub record Fit (z : Sizes) (s : List ℕ) : Type 0 where
  pub framing : Framing z.n z.l s
  pub form_word : get_or s 2 0 ≡ form_code (form_of z.form)
  pub cap_word : get_or s 3 0 ≡ z.cap
  pub allowance_word : get_or s 4 0 ≡ z.allowance
  pub some : 1 ≤ z.cap
  pub few : z.cap ≤ 2 ^ 24
  pub steps : z.allowance ≤ 2 ^ 20
  pub narrow : Narrow (form_of z.form) z.n z.l
  pub begins : z.at ≡ history_place z.n z.l
  pub ends : z.end ≡ history_place z.n z.l + history_room (form_of z.form) z.n z.cap z.l
  pub fits : z.end ≤ length s

-- what the history has to know of the sizes
pub record Spans (z : Sizes) (y : Layout) : Type 0 where
  pub form : y.form ≡ z.form
  pub n : y.n ≡ z.n
  pub l : y.l ≡ z.l
  pub cap : y.cap ≡ z.cap

-- the form that a word of the header says: 0 scalar, else sliced
unfoldable pub form_at : ℕ → forms.Form
form_at w = cond (eqb w 0) variants.Scalar variants.Sliced

-- the sizes that the header's words say
unfoldable pub sizes_at : List ℕ → Sizes
sizes_at s =
    let n = get_or s 1 0 in
    let l = words n in
    let form = form_at (get_or s 2 0) in
    let at = history_place n l in
    sizes n l form (get_or s 3 0) (get_or s 4 0) at (at + history_room (form_of form) n (get_or s 3 0) l)

-- too short to hold the header, or shorter than at its opening
abbrev pub TooShort : List ℕ → Type 0
TooShort s = (length s < 14) ⊎ (length s < get_or s 0 0)

-- the words hold no state
abbrev pub Damaged : List ℕ → Type 0
Damaged s = Enough s × ((m : State) → Stored m s → ⊥)

-- why a call refuses a slice before it does anything: it is too short, or its words hold no state
abbrev pub Unsound : Refusal → List ℕ → Type 0
Unsound refusal.TooShort s = TooShort s
Unsound refusal.NoSuchQubit s = ⊥
Unsound refusal.SameQubit s = ⊥
Unsound refusal.Full s = ⊥
Unsound refusal.NoSuchEvent s = ⊥
Unsound refusal.Turn s = ⊥
Unsound refusal.Corrupt s = Damaged s

-- ---- an opening's header

-- from s to t the header's five words are written, and all else is as it was
pub record Stamped (s : List ℕ) (n cap allowance : ℕ) (f : Form) (t : List ℕ) : Type 0 where
  pub same_length : length t ≡ length s
  pub size : get_or t 0 0 ≡ length s
  pub qubits : get_or t 1 0 ≡ n
  pub form : get_or t 2 0 ≡ form_code f
  pub capacity : get_or t 3 0 ≡ cap
  pub steps : get_or t 4 0 ≡ allowance
  pub other : (k : ℕ) → 5 ≤ k → get_or t k 0 ≡ get_or s k 0
