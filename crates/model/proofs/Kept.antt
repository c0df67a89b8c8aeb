-- What a good state keeps, in the words of `Demands`: its frame, its labels, its lists and its signs. Assumes nothing.
use Prim.Native.Nat.{ℕ, ◌*◌, ◌%◌, ◌^◌, ◌≤◌, ◌<◌}
use mathlib.Core.Path.{◌≡◌, refl, sym, ap, ◌∙◌, subst}
use mathlib.Core.Bool.{true, false, not, false≢true}
use mathlib.Core.List.{List, []}
use native.Mathlib.Omega.{arith}
use native.Mathlib.Decide.{ℕ_discrete, dec_lt}
use native.Mathlib.Nat.{div-eq_of_lt, zero-mod, lt_of_lt_of_le, mul-le-mul_left}
use lib.ListN.{length, get_or-eq_default}
use lib.Pow.{pow_mono}
use lib.Bits.{or_lt}
use lib.IntN.{ℤ}
use lib.Dec.{eqb}
use borrow.Author.Tests.{ne_eqb}
use Rattle.model.specs.Frame.{Rows, Kind, x_at, z_at, axis, paulis}
use Rattle.model.specs.Pauli.{Pauli, anti}
use Rattle.model.specs.Events.{Body, rotation, blocker, is_rotation, Form, scalar, sliced, State, plane, keep, touches, event_at, live_at, dead, factor}
use Rattle.model.specs.Search.{list_at, sign_at, found, look}
use Rattle.model.specs.Demands.{Mem, Rising, IsSign, Signed, Match, Named, Says, Paired, Sketched, occurs, Share, Listed}
use Rattle.model.proofs.Parity.{anti_comm, anti_self}
use Rattle.model.proofs.Products.{has_sign, sign_quarter, sign_sign}
use Rattle.model.proofs.Invariant.{Sound, even_axis}
use Rattle.model.proofs.Labels.{Follows-x, Follows-z, Follows-axis}
use Rattle.model.proofs.Members.{clash, keep_none}
use Rattle.model.proofs.Lists.{ListOk, once}
use Rattle.model.proofs.Good.{Good, origin, live_there, Good-look}

-- ---- the frame: an even quarter is a sign

pub paired : (n : ℕ) (r : Rows Pauli) → Sound n r → Paired n r
paired n r s = record {
  x_rows = s.x_length;
  z_rows = s.z_length;
  x_sign = (λ q h. has_sign (x_at paulis r q) (s.own q h).even_x);
  z_sign = (λ q h. has_sign (z_at paulis r q) (s.own q h).even_z);
  own = (λ q h. (s.own q h).pair);
  xx = (λ p q h k. go_x p q h k (ℕ_discrete p q));
  zz = (λ p q h k. go_z p q h k (ℕ_discrete p q));
  xz = (λ p q h k d. (s.free p q h k d).xz);
}
  where
    go_x : (p q : ℕ) → p < n → q < n → Dec (p ≡ q) → anti (x_at paulis r p) (x_at paulis r q) ≡ 0
    go_x p q h k (yes e) = ap (λ (w : ℕ). anti (x_at paulis r w) (x_at paulis r q)) e ∙ anti_self (x_at paulis r q)
    go_x p q h k (no d) = (s.free p q h k d).xx

    go_z : (p q : ℕ) → p < n → q < n → Dec (p ≡ q) → anti (z_at paulis r p) (z_at paulis r q) ≡ 0
    go_z p q h k (yes e) = ap (λ (w : ℕ). anti (z_at paulis r w) (z_at paulis r q)) e ∙ anti_self (z_at paulis r q)
    go_z p q h k (no d) = (s.free p q h k d).zz

pub unpaired : (n : ℕ) (r : Rows Pauli) → Paired n r → Sound n r
unpaired n r p = record {
  x_length = p.x_rows;
  z_length = p.z_rows;
  own = (λ q h. record { even_x = sign_quarter _ (p.x_sign q h); even_z = sign_quarter _ (p.z_sign q h); pair = p.own q h });
  free = (λ a b h k d. record {
    xx = p.xx a b h k;
    xz = p.xz a b h k d;
    zx = anti_comm (z_at paulis r a) (x_at paulis r b) ∙ p.xz b a k h (λ e. d (sym e));
    zz = p.zz a b h k;
  });
}

-- ---- the labels

pub sketched : (s : State) → Good s → Sketched s
sketched s g = record {
  x_label = (λ q. Follows-x (origin s) s.frame s.sketch q g.follows);
  z_label = (λ q. Follows-z (origin s) s.frame s.sketch q g.follows);
  axis_label = (λ k q. Follows-axis (origin s) s.frame s.sketch k q g.follows);
  event_label = (λ i h. (g.each i h).labelled);
}

-- ---- the lists

-- an axis below 2 ^ (l m) touches no bit from m on
touches_none : (l m x z b : ℕ) → x < 2 ^ (l * m) → z < 2 ^ (l * m) → m ≤ b → touches l x z b ≡ false
unfolding touches
touches_none l m x z b hx hz h =
    ap (λ (w : ℕ). not (eqb (w % 2 ^ l) 0)) (div-eq_of_lt (lt_of_lt_of_le (or_lt (l * m) x z hx hz) (pow_mono (mul-le-mul_left l h))))
    ∙ ap (λ (w : ℕ). not (eqb w 0)) (zero-mod (2 ^ l))

fits_Share : (f : Form) (d n : ℕ) → factor f * d ≤ n → Share f d n
unfolding factor
fits_Share scalar d n h = h
fits_Share sliced d n h = h

module _ (s : State) (g : Good s) where
  -- past the last list there is nothing
  beyond : (b : ℕ) → length s.lists ≤ b → list_at s b ≡ []
  unfolding list_at
  beyond b h = get_or-eq_default s.lists [] h

  abbrev Here : ℕ → Type 0
  Here b = ListOk (plane s) s.given.form s.events b (list_at s b)

  -- what holds of each list and of an empty one holds of all
  each_list : (P : ℕ → List ℕ → Type 0) → ((b : ℕ) → Here b → P b (list_at s b)) → ((b : ℕ) → P b []) → (b : ℕ) → P b (list_at s b)
  each_list P f e b = go (dec_lt b (length s.lists))
    where
      go : Dec (b < length s.lists) → P b (list_at s b)
      go (yes h) = f b (g.lists_ok.ok b h)
      go (no h) = subst (P b) (sym (beyond b (omega arith))) (e b)

  -- a list of a live event's support is there
  supported : (b i : ℕ) → live_at s.events i ≡ true → touches (plane s) (event_at s.events i).x (event_at s.events i).z b ≡ true → b < length s.lists
  supported b i a t = go (dec_lt b (length s.lists))
    where
      there : i < length s.events
      there = live_there s.events i a

      grown : {y : ℕ} → y < 2 ^ s.given.n → y < 2 ^ (plane s * length s.lists)
      grown h = lt_of_lt_of_le h (pow_mono g.wide)

      go : Dec (b < length s.lists) → b < length s.lists
      go (yes h) = h
      go (no h) =
          clash (touches (plane s) (event_at s.events i).x (event_at s.events i).z b) t
          (touches_none (plane s) (length s.lists) (event_at s.events i).x (event_at s.events i).z b
          (grown (g.each i there).small_x) (grown (g.each i there).small_z) (omega arith))

  pub listed : Listed s
  unfolding occurs keep dead
  listed = record {
    rising = each_list (λ b ids. Rising ids) (λ b k. k.rising) (λ b. tt);
    events_only = (λ b i. each_list (λ b ids. Mem i ids → i < length s.events) (λ b k m. k.bound i m) (λ b m. absurd m) b);
    once = (λ b i a t. let k : Here b = g.lists_ok.ok b (supported b i a t) in ap length (once i (list_at s b) k.rising (k.whole i (live_there s.events i a) a t)));
    nowhere_else = (λ b i t. each_list (λ b ids. touches (plane s) (event_at s.events i).x (event_at s.events i).z b ≡ false → occurs i ids ≡ 0)
        (λ b k t. ap length (keep_none (eqb i) (list_at s b) (λ j m. off b i j k t m))) (λ b t. refl) b t);
    share = each_list (λ b ids. Share s.given.form (dead s.events ids) (length ids)) (λ b k. fits_Share s.given.form _ _ k.share) (λ b. empty s.given.form);
  }
    where
      off : (b i j : ℕ) → Here b → touches (plane s) (event_at s.events i).x (event_at s.events i).z b ≡ false → Mem j (list_at s b) → eqb i j ≡ false
      off b i j k t m =
          ne_eqb i j (λ e. clash (touches (plane s) (event_at s.events i).x (event_at s.events i).z b)
          (subst (λ (w : ℕ). touches (plane s) (event_at s.events w).x (event_at s.events w).z b ≡ true) (sym e) (k.support j m)) t)

      empty : (f : Form) → Share f 0 0
      empty scalar = omega arith
      empty sliced = omega arith

-- ---- signs

rotation_Signed : (b : Body) → is_rotation b ≡ true → Signed b → IsSign (sign_at b)
unfolding is_rotation sign_at
rotation_Signed (rotation tag sgn label) r h = h
rotation_Signed blocker r h = absurd (false≢true r)

pub look_sign : (s : State) → Good s → (kind : Kind) (q id steps : ℕ) (g : ℤ) → q < s.given.n → look kind q s ≡ found id g steps → IsSign g
look_sign s good kind q id steps g there e =
    let p : Pauli = axis paulis kind q s.frame in
    let n : Named s p id g = subst (Says s p) e (Good-look s good kind q) in
    let m : Match s p id = n.newest.match in
    rw n.relative
    (sign_sign _ _ (rotation_Signed (event_at s.events id).body m.rotation (good.each id m.there).signed)
    (has_sign p (even_axis s.given.n s.frame kind q good.sound there)))
