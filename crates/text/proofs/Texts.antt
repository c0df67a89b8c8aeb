-- Texts of 01, computed from the definitions: the input lines and the output lines of its example, one of every other kind, and lines outside the rules.
-- Assumes nothing.
use mathlib.Core.Path.{◌≡◌, refl}
use lib.IntN.{pos, negsuc}
use Rattle.model.specs.Search.{found, none, blocked, out}
use Rattle.model.specs.Calls.{refused, accepted, recorded, looked}
use Rattle.frame.specs.declared.axes.Kind.TheVariants as kind
use Rattle.history.specs.declared.forms.Form.TheVariants as form
use Rattle.gating.specs.declared.gates.Gate.TheVariants as gate
use Rattle.partner.specs.declared.calls.Call.TheVariants as call
use Rattle.text.specs.Shape.{bytes, glyph, digits, decimal, hexes, letter, item_of, print}
use Rattle.text.specs.Taken.{nibble, more, number_at, word_at, kind_at, byte_at}
use Rattle.text.specs.Fit.{fitted}
use Rattle.text.specs.Line.{text, read_rows, reading_of}
use Rattle.text.specs.Spoken.{replied, bad, not_opened, end, spoken}
use Rattle.text.specs.declared.lines.Line.TheVariants as line
use Rattle.std.specs.Prelude.{None}

-- the input of 01's example
pub texts :
    (text (line.Qubits 2) ≡ bytes "qubits=2")
    × (text (line.Form form.Scalar) ≡ bytes "form=scalar")
    × (text (line.Events 8) ≡ bytes "events=8")
    × (text (line.Steps 1048576) ≡ bytes "steps=1048576")
    × (text (line.Label 0 0 1 0 2) ≡ bytes "label=0 x=00000000000000000000000000000001 z=00000000000000000000000000000002")
    × (text (line.Label 1 0 4 0 8) ≡ bytes "label=1 x=00000000000000000000000000000004 z=00000000000000000000000000000008")
    × (text (line.Call (call.Record kind.Z 0 1)) ≡ bytes "record=z a=0 tag=1")
    × (text (line.Call (call.Gate (gate.Cnot 0 1))) ≡ bytes "gate=cnot a=0 b=1")
    × (text (line.Look kind.Z 1) ≡ bytes "look=z a=1")
    × (text (line.Call (call.Gate (gate.X 1))) ≡ bytes "gate=x a=1")
    × (text (line.Call (call.Gate (gate.X 0))) ≡ bytes "gate=x a=0")
    × (text (line.Look kind.Z 0) ≡ bytes "look=z a=0")
    × (text (line.Call (call.Record kind.X 0 2)) ≡ bytes "record=x a=0 tag=2")
    × (text (line.Call (call.Kill 1)) ≡ bytes "kill=1")
    × (text (line.Call call.Clear) ≡ bytes "clear=all")
unfolding text print item_of decimal digits hexes glyph letter
texts = (refl, refl, refl, refl, refl, refl, refl, refl, refl, refl, refl, refl, refl, refl, refl)

-- one of every other kind, and a label with digits of all kinds
pub more_texts :
    (text (line.Call (call.Turn kind.Y 2 0)) ≡ bytes "turn=2 kind=y a=0")
    × (text (line.Call (call.Measure 0)) ≡ bytes "measure=0")
    × (text (line.Call (call.Reset 0)) ≡ bytes "reset=0")
    × (text (line.Call (call.Ccx 0 1 2)) ≡ bytes "ccx=0 b=1 c=2")
    × (text (line.Call (call.Ccz 0 1 2)) ≡ bytes "ccz=0 b=1 c=2")
    × (text (line.Look kind.P 3) ≡ bytes "look=p a=3")
    × (text (line.Form form.Sliced) ≡ bytes "form=sliced")
    × (text (line.Call (call.Gate (gate.H 31))) ≡ bytes "gate=h a=31")
    × (text (line.Call (call.Gate (gate.Y 31))) ≡ bytes "gate=y a=31")
    × (text (line.Call (call.Gate (gate.Z 31))) ≡ bytes "gate=z a=31")
    × (text (line.Call (call.Gate (gate.S 31))) ≡ bytes "gate=s a=31")
    × (text (line.Call (call.Gate (gate.Sdg 31))) ≡ bytes "gate=sdg a=31")
    × (text (line.Call (call.Gate (gate.Sx 31))) ≡ bytes "gate=sx a=31")
    × (text (line.Call (call.Gate (gate.Cz 3 17))) ≡ bytes "gate=cz a=3 b=17")
    × (text (line.Call (call.Gate (gate.Cy 3 17))) ≡ bytes "gate=cy a=3 b=17")
    × (text (line.Call (call.Gate (gate.Swap 3 17))) ≡ bytes "gate=swap a=3 b=17")
    × (text (line.Label 31 0xdead_beef_0123_4567 0x89ab_cdef_ffff_ffff 10 0) ≡ bytes "label=31 x=deadbeef0123456789abcdefffffffff z=000000000000000a0000000000000000")
unfolding text print item_of decimal digits hexes glyph letter
more_texts = (refl, refl, refl, refl, refl, refl, refl, refl, refl, refl, refl, refl, refl, refl, refl, refl, refl)

-- the output of 01's example
pub sayings :
    (spoken (replied 7 (recorded 0)) ≡ bytes "line=7 answer=0 id=0\n")
    × (spoken (replied 8 accepted) ≡ bytes "line=8 answer=0\n")
    × (spoken (replied 9 (looked (none 0))) ≡ bytes "line=9 look=none steps=0\n")
    × (spoken (replied 10 accepted) ≡ bytes "line=10 answer=0\n")
    × (spoken (replied 11 accepted) ≡ bytes "line=11 answer=0\n")
    × (spoken (replied 12 accepted) ≡ bytes "line=12 answer=0\n")
    × (spoken (replied 13 (looked (found 0 (negsuc 0) 1))) ≡ bytes "line=13 look=found id=0 sign=-1 steps=1\n")
    × (spoken (replied 14 (recorded 1)) ≡ bytes "line=14 answer=0 id=1\n")
    × (spoken (replied 15 (looked (blocked 2))) ≡ bytes "line=15 look=blocked steps=2\n")
    × (spoken (replied 16 accepted) ≡ bytes "line=16 answer=0\n")
    × (spoken (replied 17 (looked (found 0 (negsuc 0) 1))) ≡ bytes "line=17 look=found id=0 sign=-1 steps=1\n")
    × (spoken (replied 18 accepted) ≡ bytes "line=18 answer=0\n")
    × (spoken (replied 19 (looked (none 0))) ≡ bytes "line=19 look=none steps=0\n")
    × (spoken (end 19 (record { events = 2; live = 1 })) ≡ bytes "end=19 events=2 live=1\n")
unfolding spoken print item_of decimal digits glyph
sayings = (refl, refl, refl, refl, refl, refl, refl, refl, refl, refl, refl, refl, refl, refl)

-- one of every other kind
pub more_sayings :
    (spoken (replied 20 (looked (found 63 (pos 1) 1))) ≡ bytes "line=20 look=found id=63 sign=1 steps=1\n")
    × (spoken (replied 21 (looked (out 1048576))) ≡ bytes "line=21 look=out steps=1048576\n")
    × (spoken (replied 22 (refused 6)) ≡ bytes "line=22 answer=6\n")
    × (spoken (bad 5) ≡ bytes "line=5 answer=bad\n")
    × (spoken (not_opened 1) ≡ bytes "open=1\n")
unfolding spoken print item_of decimal digits glyph
more_sayings = (refl, refl, refl, refl, refl)

-- a leading zero, eleven digits, a tag past 32 bits, a capital letter, a capital digit, a byte too many, and no byte at all are no lines
pub bads :
    (reading_of (bytes "kill=01") ≡ None)
    × (reading_of (bytes "kill=10000000000") ≡ None)
    × (reading_of (bytes "record=z a=0 tag=4294967296") ≡ None)
    × (reading_of (bytes "look=Z a=0") ≡ None)
    × (reading_of (bytes "label=0 x=0000000000000000000000000000000A z=00000000000000000000000000000000") ≡ None)
    × (reading_of (bytes "gate=h a=0 ") ≡ None)
    × (reading_of (bytes "") ≡ None)
unfolding reading_of read_rows fitted item_of nibble more number_at word_at kind_at byte_at
bads = (refl, refl, refl, refl, refl, refl, refl)
