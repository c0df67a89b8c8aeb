-- Sizes: the limit on n in numbers, and that the store's need is within the bound that 01 sets, for every n and E in both forms, up to the qubits
-- that the sliced form takes. Assumes nothing.
use Prim.Native.Nat.{ℕ, ◌+◌, ◌*◌, ◌/◌, ◌^◌, ◌≤◌, ◌<◌}
use mathlib.Core.Path.{◌≡◌, sym, ap, ◌∙◌}
use mathlib.Core.Logic.{◌↔◌}
use mathlib.Core.Bool.{false}
use native.Mathlib.Nat.{mul-le-mul, mul-le-mul_right, mul-add, add-mul, mul_assoc, le_trans}
use native.Mathlib.Omega.{arith}
use native.Mathlib.Decide.{dec_lt}
use lib.Dec.{lit≤}
use borrow.Author.Tests.{ltb-false}
use Rattle.model.specs.Events.{Form, scalar, sliced, words}
use Rattle.model.specs.Store.{header_room, frame_room, sketch_room, list_count, count_room, chain_room, event_room, live_room, axis_room, list_room, need, roof}
use Rattle.model.specs.Calls.{is_too_wide}

-- the rows of a frame: n l words four times, and two phases a qubit
pub frame_words : (n l : ℕ) → n * 2 * (2 * l + 1) ≡ 4 * n * l + 2 * n
frame_words n l = omega (arith, mul-add (n * 2) (2 * l) 1, sym (mul_assoc (n * 2) 2 l) ∙ ap (λ (w : ℕ). w * l) line)
  where
    line : n * 2 * 2 ≡ 4 * n
    line = omega arith

-- a sliced list's masks, for all lists: 32 lists of 65 words a block at most
masks : (n w : ℕ) → n ≤ 32 → n * ((2 * n + 1) * w) ≤ 2080 * w
masks n w h = le_trans (mul-le-mul h (mul-le-mul_right w few)) (omega arith)
  where
    few : 2 * n + 1 ≤ 65
    few = omega arith

-- 01: "at most (2l+96)E + 4nl + 8n + 2,560"
pub need-roof : (n E : ℕ) (f : Form) → is_too_wide f n ≡ false → need n E f ≤ roof n E
unfolding need roof header_room frame_room sketch_room list_count count_room chain_room event_room live_room axis_room list_room is_too_wide words
need-roof n E scalar h = omega (arith, frame_words n ((n + 63) / 64), add-mul (2 * ((n + 63) / 64)) 96 E)
need-roof n E sliced h =
    let w : ℕ = (E + 63) / 64 in
    let l : ℕ = (n + 63) / 64 in
    omega (arith, frame_words n l, add-mul (2 * l) 96 E, mul-add n E ((2 * n + 1) * w), mul-le-mul_right E small, masks n w small)
  where
    small : n ≤ 32
    small = ltb-false 32 n h

-- ---- the limit on n in numbers

pub frame_limit : (n : ℕ) → n ≤ 23168 ↔ 4 * n * words n ≤ 2 ^ 25
unfolding words
frame_limit n = (down, up)
  where
    down : n ≤ 23168 → 4 * n * ((n + 63) / 64) ≤ 2 ^ 25
    down h = le_trans (mul-le-mul (four h) (few_words h)) (lit≤ tt)
      where
        four : n ≤ 23168 → 4 * n ≤ 92672
        four h = omega arith

        few_words : n ≤ 23168 → (n + 63) / 64 ≤ 362
        few_words h = omega arith

    over : 23169 ≤ n → 33641388 ≤ 4 * n * ((n + 63) / 64)
    over h = mul-le-mul (four h) (many_words h)
      where
        four : 23169 ≤ n → 92676 ≤ 4 * n
        four h = omega arith

        many_words : 23169 ≤ n → 363 ≤ (n + 63) / 64
        many_words h = omega arith

    up : 4 * n * ((n + 63) / 64) ≤ 2 ^ 25 → n ≤ 23168
    up h = go (dec_lt 23168 n)
      where
        go : Dec (23168 < n) → n ≤ 23168
        go (yes u) = absurd (wrong (4 * n * ((n + 63) / 64)) (over u) h)
          where
            wrong : (w : ℕ) → 33641388 ≤ w → w ≤ 2 ^ 25 → ⊥
            wrong w a b = omega arith
        go (no u) = omega arith
