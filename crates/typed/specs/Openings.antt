-- What an opening is, as `model` has it, and when each of its refusals comes: 01's sizes. Assumes nothing.
use Rattle.std.specs.Prelude.{◌≡◌, ℕ, ◌*◌, ◌^◌, ◌≤◌, ◌<◌, List, length}
use Rattle.model.specs.Events.{Opening, words}
use Rattle.model.specs.Store.{need}
use Rattle.model.specs.Calls.{opening}
use Rattle.history.specs.Sizes.{form_of}
use Rattle.history.specs.declared.forms.Form.TheVariants.{Sliced}
use Rattle.typed.specs.declared.stores.Plan.{Plan}

abbrev pub opening_by : Plan → (labels words : List ℕ) → Opening
opening_by plan labels words = opening plan.qubits plan.events plan.steps (form_of plan.form) labels (length words)

-- "n is 1 to 23,168 (4nl must not pass 2^25). The sliced form takes n up to 32. A is 0 to 1,048,576."
pub record FitsSizes (plan : Plan) : Type 0 where
  pub some : 1 ≤ plan.qubits
  pub rows : 4 * plan.qubits * words plan.qubits ≤ 2 ^ 25
  pub steps : plan.steps ≤ 2 ^ 20
  pub sliced : plan.form ≡ Sliced → plan.qubits ≤ 32

-- "E is at least 1 and 2lE at most 2^25."
pub record FitsEvents (plan : Plan) : Type 0 where
  pub some : 1 ≤ plan.events
  pub axes : 2 * words plan.qubits * plan.events ≤ 2 ^ 25

-- "labels not 4n words, or store below its need" does not hold
pub record FitsWords (plan : Plan) (labels words : List ℕ) : Type 0 where
  pub labels_given : length labels ≡ 4 * plan.qubits
  pub long : need plan.qubits plan.events (form_of plan.form) ≤ length words
