-- The sketch, after 01, "Frames": "a 128-bit label for each row", two 64-bit words here, combined "by exclusive or under the same gates".
-- Assumes nothing.
use Rattle.std.specs.Prelude.{ℕ, Bool, ◌&&◌, List, [], ◌∷◌, eqb}
use Rattle.std.specs.Int.Bits.{bit_xor}
use Rattle.model.specs.Frame.{Ops, Rows}

pub record Label : Type 0 where
  pub high : ℕ
  pub low : ℕ

unfoldable pub label_xor : Label → Label → Label
label_xor a b = record { high = bit_xor a.high b.high; low = bit_xor a.low b.low }

unfoldable pub no_label : Label
no_label = record { high = 0; low = 0 }

unfoldable pub same_label : Label → Label → Bool
same_label a b = eqb a.high b.high && eqb a.low b.low

-- "phases don't touch it"
unfoldable pub labels : Ops Label
labels = record { mul = label_xor; turned = (λ k a. a); unit = no_label }

-- The rows at opening, from the 4n words of labels: "per qubit X high, X low, Z high, Z low".
unfoldable pub label_rows : List ℕ → Rows Label
label_rows [] = record { xs = []; zs = [] }
label_rows (a ∷ []) = record { xs = []; zs = [] }
label_rows (a ∷ b ∷ []) = record { xs = []; zs = [] }
label_rows (a ∷ b ∷ c ∷ []) = record { xs = []; zs = [] }
label_rows (a ∷ b ∷ c ∷ d ∷ ws) =
    let r : Rows Label = label_rows ws in
    record { xs = record { high = a; low = b } ∷ r.xs; zs = record { high = c; low = d } ∷ r.zs }
