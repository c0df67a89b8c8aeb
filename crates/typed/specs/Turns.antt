-- How many eighths of a full turn each turn is. Assumes nothing.
use Rattle.std.specs.Prelude.{◌≡◌, ◌≢◌, ℕ, Result, MatchResult}
use Rattle.typed.specs.declared.turns.Turn.{Turn}
use Rattle.typed.specs.declared.turns.Turn.TheVariants.{Zero, Quarter, Half, ThreeQuarters}
use Rattle.typed.specs.declared.turns.NoSuchTurn.{NoSuchTurn}

abbrev pub eighths_of : Turn → ℕ
eighths_of Zero = 0
eighths_of Quarter = 2
eighths_of Half = 4
eighths_of ThreeQuarters = 6

-- the turn by so many eighths, or an error that has a number which no turn has
abbrev pub IsTurnBy : ℕ → Result Turn NoSuchTurn → Type 0
IsTurnBy k r = MatchResult r (λ turn. eighths_of turn ≡ k) (λ e. (e.0 ≡ k) × ((turn : Turn) → eighths_of turn ≢ k))
