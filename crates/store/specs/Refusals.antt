-- 01's number of each refusal. Assumes nothing.
use Rattle.std.specs.Prelude.{ℕ, Result, Ok, Err}
use Rattle.history.specs.declared.kill.KillError.{KillError}
use Rattle.history.specs.declared.kill.KillError.TheVariants as kill
use Rattle.store.specs.declared.refusals.OpenError.{OpenError}
use Rattle.store.specs.declared.refusals.OpenError.TheVariants as opening
use Rattle.store.specs.declared.refusals.Refusal.{Refusal}
use Rattle.store.specs.declared.refusals.Refusal.TheVariants as refusal

-- "At opening 1, 2, 3"
abbrev pub open_code_of : OpenError → ℕ
open_code_of opening.Sizes = 1
open_code_of opening.Events = 2
open_code_of opening.TooShort = 3

-- "4: a qubit is n or more" and so on; 9 on words that no opening and no call of ours left
abbrev pub code_of : Refusal → ℕ
code_of refusal.TooShort = 3
code_of refusal.NoSuchQubit = 4
code_of refusal.SameQubit = 5
code_of refusal.Full = 6
code_of refusal.NoSuchEvent = 7
code_of refusal.Turn = 8
code_of refusal.Corrupt = 9

-- "7: no such event, a blocker, or dead"
abbrev pub kill_refusal : KillError → Refusal
kill_refusal kill.NoSuchEvent = refusal.NoSuchEvent
kill_refusal kill.Corrupt = refusal.Corrupt

-- the number of a result, "0: done"
abbrev pub open_number_of : {A : Type 0} → Result A OpenError → ℕ
open_number_of (Ok v) = 0
open_number_of (Err e) = open_code_of e

abbrev pub number_of : {A : Type 0} → Result A Refusal → ℕ
number_of (Ok v) = 0
number_of (Err e) = code_of e
