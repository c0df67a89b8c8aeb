-- Where the rows of both frames lie in the words of one part (docs/STORE.md), and the three operations on rows of which the gates are made.
-- Row 2q is x[q] and row 2q + 1 is z[q]. Assumes nothing.
use Rattle.std.specs.Prelude.{◌≡◌, Bool, true, cond, List, ℕ, ◌+◌, ◌*◌, ◌/◌, ◌%◌, ◌<◌, length, get_or, eqb}
use Rattle.model.specs.Pauli.{Pauli}
use Rattle.model.specs.Frame.{Ops, Rows, Gate, gate, x_at, z_at, paulis}
use Rattle.model.specs.Sketch.{Label, labels}
use Rattle.pauli.specs.Rows.{value_at}

-- ---- the words

-- the words of m rows of l words in a plane, with their phases and labels
abbrev pub Sized : (m l : ℕ) → List ℕ → Type 0
Sized m l s = length s ≡ m * (2 * l + 1) + 2 * m

-- where row g and its label begin
abbrev pub row_place : (l g : ℕ) → ℕ
row_place l g = g * (2 * l + 1)

abbrev pub label_place : (m l g : ℕ) → ℕ
label_place m l g = m * (2 * l + 1) + 2 * g

-- the words from a on are the phase of p, its X set and its Z set
pub record IsRow (l : ℕ) (s : List ℕ) (a : ℕ) (p : Pauli) : Type 0 where
  pub phase : get_or s a 0 ≡ p.phase
  pub small : p.phase < 4
  pub x : value_at s (a + 1) l ≡ p.x
  pub z : value_at s (a + 1 + l) l ≡ p.z

-- the two words from a on are the label b
pub record IsLabel (s : List ℕ) (a : ℕ) (b : Label) : Type 0 where
  pub high : get_or s a 0 ≡ b.high
  pub low : get_or s (a + 1) 0 ≡ b.low

-- the words are the m rows P and their labels L
pub record Rowed (m l : ℕ) (P : ℕ → Pauli) (L : ℕ → Label) (s : List ℕ) : Type 0 where
  pub long : Sized m l s
  pub row : (g : ℕ) → g < m → IsRow l s (row_place l g) (P g)
  pub label : (g : ℕ) → g < m → IsLabel s (label_place m l g) (L g)

-- ---- rows by number

module _ {A : Type 0} where
  -- f with a at g
  unfoldable pub put : (ℕ → A) → ℕ → A → ℕ → A
  put f g a j = cond (eqb j g) a (f j)

  -- the rows g and k exchanged
  unfoldable pub swap_row : (g k : ℕ) → (ℕ → A) → ℕ → A
  swap_row g k f = put (put f g (f k)) k (f g)

module _ {A : Type 0} (o : Ops A) where
  -- the row g with phase + by
  unfoldable pub turn_row : (by g : ℕ) → (ℕ → A) → ℕ → A
  turn_row by g f = put f g (o.turned by (f g))

  -- the row g multiplied by the row k, with phase + by
  unfoldable pub times_row : (by g k : ℕ) → (ℕ → A) → ℕ → A
  times_row by g k f = put f g (o.turned by (o.mul (f g) (f k)))

  -- the rows of a frame
  unfoldable pub row_of : Rows A → ℕ → A
  row_of r g = cond (eqb (g % 2) 0) (x_at o r (g / 2)) (z_at o r (g / 2))

-- ---- a frame of n qubits and its sketch, in the words of one part

pub record Held (n l : ℕ) (r : Rows Pauli) (k : Rows Label) (s : List ℕ) : Type 0 where
  pub xs : length r.xs ≡ n
  pub zs : length r.zs ≡ n
  pub label_xs : length k.xs ≡ n
  pub label_zs : length k.zs ≡ n
  pub rows : Rowed (2 * n) l (row_of paulis r) (row_of labels k) s

-- F is done to the rows and their labels: for all that the words s are, the words t are what F makes of them, and the answer ok is yes
abbrev pub Moves : (m l : ℕ) → ((A : Type 0) → Ops A → (ℕ → A) → ℕ → A) → List ℕ → Bool → List ℕ → Type 0
Moves m l F s ok t = (P : ℕ → Pauli) (L : ℕ → Label) → Rowed m l P L s → (ok ≡ true) × Rowed m l (F Pauli paulis P) (F Label labels L) t

-- a gate of `model`, on rows of anything; and one thing done after another
abbrev pub applied : Gate → (A : Type 0) → Ops A → Rows A → Rows A
applied g A o = gate o g

abbrev pub after : (G F : (A : Type 0) → Ops A → Rows A → Rows A) → (A : Type 0) → Ops A → Rows A → Rows A
after G F A o r = G A o (F A o r)

-- F is done to both frames: for every frame and sketch that the words s hold, the words t hold what F makes of them, and the answer ok is yes
abbrev pub Does : (n l : ℕ) → ((A : Type 0) → Ops A → Rows A → Rows A) → List ℕ → Bool → List ℕ → Type 0
Does n l F s ok t = (r : Rows Pauli) (k : Rows Label) → Held n l r k s → (ok ≡ true) × Held n l (F Pauli paulis r) (F Label labels k) t
