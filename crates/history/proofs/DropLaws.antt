-- Laws of an event that dies: what is written for it, and that the words then hold the events with it dead. Assumes nothing.
use mathlib.Core.Path.{◌≡◌, refl, sym, ap, ◌∙◌, subst}
use mathlib.Core.Logic.{◌⊎◌, inl, inr, ⊎_elim}
use mathlib.Core.Bool.{Bool, true, false, cond, ◌&&◌}
use mathlib.Core.List.{List}
use Prim.Native.Nat.{ℕ, suc, ◌+◌, ◌-◌, ◌*◌, ◌/◌, ◌%◌, ◌^◌, ◌≤◌, ◌<◌}
use native.Mathlib.Omega.{arith}
use native.Mathlib.Decide.{ℕ_discrete}
use lib.ListN.{length, get_or, set, length-set}
use lib.Seq.{get_or-set_same, get_or-set_other}
use lib.Bits.{bit_and}
use borrow.Author.Tests.{eq-eqb, eqb-true}
use Rattle.model.specs.Pauli.{has}
use Rattle.model.specs.Events.{Body, rotation, blocker, Event, words, event_at, live_at, is_rotation, killed}
use Rattle.model.specs.Calls.{tag_at}
use Rattle.model.proofs.Members.{clash, and_both, both_and}
use Rattle.model.proofs.Lists.{gone, gone_at, gone_other, gone_x, gone_z}
use Rattle.pauli.specs.Rows.{signature}
use Rattle.pauli.proofs.Digits.{three, clear_same, clear_other}
use Rattle.pauli.proofs.RowLaws.{value_same}
use Rattle.lists.specs.Lists.{live_in}
use Rattle.lists.specs.Scans as scans
use Rattle.lists.specs.Scans.{Axed}
use Rattle.history.specs.Newest.{bucket_of, head_place, link_place, newest, Chained, Unlinked}
use Rattle.history.specs.Words.{label_place, tag_place, sig_place, axis_place, alive_place, count_place, body_word, LabelAt, Bodies, Alive, body_in, in_bucket, Chains}
use Rattle.history.specs.Recordings.{EventsHeld}
use Rattle.history.specs.Kills.{Dying, LeftBy, Gone}
use Rattle.history.proofs.ChainLaws.{newest_hit, newest_ge, newest_same, fewer_other, fewer_here}
use Rattle.history.proofs.AxisWords.{axis_inside}
use Rattle.history.proofs.StoreLaws.{alive_inside, label_same}

-- ---- the live bit and the signature

pub record Dropped (cap l id : ℕ) (h f : List ℕ) : Type 0 where
  pub live_word : get_or f (alive_place cap l + id / 64) 0 ≡ bit_and (get_or h (alive_place cap l + id / 64) 0) ((2 ^ 64 - 1) - 2 ^ (id % 64))
  pub sig_word : get_or f (sig_place cap + id) 0 ≡ 0
  pub other : (k : ℕ) → (k ≡ sig_place cap + id → ⊥) → (k ≡ alive_place cap l + id / 64 → ⊥) → get_or f k 0 ≡ get_or h k 0
  pub long : length f ≡ length h

pub dropped : (h : List ℕ) (l cap id bit : ℕ) → count_place cap l ≤ length h → id < cap → bit ≡ 2 ^ (id % 64)
    → Dropped cap l id h
    (set (set h (2 + 6 * cap + cap * (2 * l) + id / 64) (bit_and (get_or h (2 + 6 * cap + cap * (2 * l) + id / 64) 0) ((2 ^ 64 - 1) - bit))) (2 + 5 * cap + id) 0)
dropped h l cap id bit room small is = record {
  live_word =
      get_or-set_other h1 (2 + 5 * cap + id) alive 0 0 (λ e. omega arith) ∙ get_or-set_same h alive cleared 0 (omega (arith, live_in_is))
      ∙ ap (λ (b : ℕ). bit_and (get_or h alive 0) ((2 ^ 64 - 1) - b)) is;
  sig_word = get_or-set_same h1 (2 + 5 * cap + id) 0 0 (simp length-set (omega (arith, live_in_is)));
  other = λ k a b. get_or-set_other h1 (2 + 5 * cap + id) k 0 0 a ∙ get_or-set_other h alive k cleared 0 b;
  long = length-set h1 (2 + 5 * cap + id) 0 ∙ length-set h alive cleared;
}
  where
    alive : ℕ
    alive = 2 + 6 * cap + cap * (2 * l) + id / 64

    cleared : ℕ
    cleared = bit_and (get_or h alive 0) ((2 ^ 64 - 1) - bit)

    h1 : List ℕ
    h1 = set h alive cleared

    live_in_is : alive_place cap l + id / 64 < count_place cap l
    live_in_is = alive_inside cap l id small

-- ---- a chain without the event

-- the head, or the link of an event of the chain: what stands before the events below u
abbrev Spot : (p : ℕ → Bool) (n cap k c u : ℕ) → Type 0
Spot p n cap k c u = ((c ≡ head_place k) × (u ≡ n)) ⊎ ((c ≡ link_place cap u) × (u < n) × (p u ≡ true))

module _ (p q : ℕ → Bool) (n cap k id : ℕ) (h g : List ℕ) (there : k < cap) (gone_q : q id ≡ false) (same : (i : ℕ) → (i ≡ id → ⊥) → q i ≡ p i) (chain : Chained p n cap k h)
    (un : Unlinked p n cap k id h g) where
  Spot-le : (c u : ℕ) → Spot p n cap k c u → u ≤ n
  Spot-le c u (inl s) = omega (arith, s.1)
  Spot-le c u (inr s) = omega (arith, s.1)

  -- the event is next to one place alone
  not_below : (c u d v : ℕ) → Spot p n cap k c u → Spot p n cap k d v → newest p u ≡ suc id → newest p v ≡ suc id → u < v → ⊥
  not_below c u d v (inl s) t a b l = omega (arith, s.1, Spot-le d v t)
  not_below c u d v (inr s) t a b l = omega (arith, newest_ge p v u l s.2, (newest_hit p u id a).0)

  same_place : (c u d v : ℕ) → Spot p n cap k c u → Spot p n cap k d v → u ≡ v → c ≡ d
  same_place c u d v (inl s) (inl t) e = s.0 ∙ sym t.0
  same_place c u d v (inl s) (inr t) e = absurd (omega (arith, s.1, t.1))
  same_place c u d v (inr s) (inl t) e = absurd (omega (arith, s.1, t.1))
  same_place c u d v (inr s) (inr t) e = s.0 ∙ ap (link_place cap) e ∙ sym t.0

  same_upper : (c u d v : ℕ) → Spot p n cap k c u → Spot p n cap k d v → c ≡ d → u ≡ v
  same_upper c u d v (inl s) (inl t) e = s.1 ∙ sym t.1
  same_upper c u d v (inl s) (inr t) e = absurd (omega (arith, s.0, t.0))
  same_upper c u d v (inr s) (inl t) e = absurd (omega (arith, s.0, t.0))
  same_upper c u d v (inr s) (inr t) e = omega (arith, s.0, t.0)

  Spot-was : (c u : ℕ) → Spot p n cap k c u → get_or h c 0 ≡ newest p u
  Spot-was c u (inl s) = ap (λ (x : ℕ). get_or h x 0) s.0 ∙ chain.head ∙ ap (newest p) (sym s.1)
  Spot-was c u (inr s) = ap (λ (x : ℕ). get_or h x 0) s.0 ∙ chain.link u s.1 s.2

  spot_is : (c u : ℕ) → Spot p n cap k c u → get_or g c 0 ≡ newest q u
  spot_is c u s = elim (ℕ_discrete (newest p u) (suc id)) [
    | yes e ↦
        let b = un.before in
        let d : u ≡ b.upper =
        ⊎_elim (λ l. absurd (not_below un.cell b.upper c u b.place s b.next e l))
        (⊎_elim (λ r. r) (λ l. absurd (not_below c u un.cell b.upper s b.place e b.next l)))
        (three u b.upper) in
        ap (λ (x : ℕ). get_or g x 0) (same_place c u un.cell b.upper s b.place d) ∙ un.here ∙ sym (fewer_here p q id gone_q same u e)
    | no e ↦
        let b = un.before in
        un.other c (λ r. e (ap (newest p) (same_upper c u un.cell b.upper s b.place r) ∙ b.next)) ∙ Spot-was c u s ∙ sym (fewer_other p q id gone_q same u e)
  ]

  shorter : Chained q n cap k g
  shorter = record {
    head = spot_is (head_place k) n (inl (refl, refl));
    link = λ i l t. spot_is (link_place cap i) i (inr (
      refl,
      l,
      elim (ℕ_discrete i id) [
        | yes d ↦ clash (q i) t (ap q d ∙ gone_q)
        | no d ↦ sym (same i d) ∙ t
      ],
    ));
  }

-- ---- buckets

in_one : (cap k j : ℕ) (b : Body) → body_in cap k b ≡ true → body_in cap j b ≡ true → k ≡ j
unfolding body_in
in_one cap k j (rotation tag sgn label) s t = sym (eqb-true (bucket_of cap label.low) k s) ∙ eqb-true (bucket_of cap label.low) j t
in_one cap k j blocker s t = clash false s refl

in_own : (cap k a : ℕ) (h : List ℕ) (b : Body) → is_rotation b ≡ true → LabelAt h a b → k ≡ bucket_of cap (get_or h (a + 1) 0) → body_in cap k b ≡ true
unfolding body_in is_rotation
in_own cap k a h (rotation tag sgn label) r t e = eq-eqb (bucket_of cap label.low) k (sym (e ∙ ap (bucket_of cap) t.1))
in_own cap k a h blocker r t e = clash false r refl

in_rotation : (cap k : ℕ) (b : Body) → body_in cap k b ≡ true → is_rotation b ≡ true
unfolding body_in is_rotation
in_rotation cap k (rotation tag sgn label) e = refl
in_rotation cap k blocker e = clash false e refl

in_live : (cap k : ℕ) (es : List Event) (i : ℕ) → in_bucket cap k es i ≡ true → (live_at es i ≡ true) × (body_in cap k (event_at es i).body ≡ true)
unfolding in_bucket
in_live cap k es i e = and_both (live_at es i) (body_in cap k (event_at es i).body) e

-- ---- the event dies

module _ (cap l : ℕ) (es : List Event) (id : ℕ) (h f : List ℕ) (few : length es ≤ cap) (d : Dying es id) (held : EventsHeld cap l es h) (w : Dropped cap l id h f) (k : ℕ) (there : k < cap)
    (own : k ≡ bucket_of cap (get_or h (label_place cap id + 1) 0)) where
  -- it is in its bucket's chain
  pub dying_in : in_bucket cap k es id ≡ true
  unfolding in_bucket
  dying_in = both_and (live_at es id) (body_in cap k (event_at es id).body) d.live (in_own cap k (label_place cap id) h (event_at es id).body d.rotation (held.bodies.label id d.there) own)

  chain_kept : (j : ℕ) → j < cap → Chained (in_bucket cap j es) (length es) cap j f
  chain_kept j jb = record {
    head = w.other (head_place j) (λ e. omega arith) (λ e. omega arith) ∙ (held.chains j jb).head;
    link = λ i b t. w.other (link_place cap i) (λ e. omega arith) (λ e. omega arith) ∙ (held.chains j jb).link i b t;
  }

  pub dying_chain : Chained (in_bucket cap k es) (length es) cap k f
  dying_chain = chain_kept k there

  module _ (g : List ℕ) (long : length g ≡ length f) (un : Unlinked (in_bucket cap k es) (length es) cap k id f g) where
    -- the events then
    at_id : event_at (set es id (killed (event_at es id))) id ≡ killed (event_at es id)
    unfolding gone
    at_id = gone_at es id d.there

    at_other : (i : ℕ) → (i ≡ id → ⊥) → event_at (set es id (killed (event_at es id))) i ≡ event_at es i
    unfolding gone
    at_other i n = gone_other es id d.there i n

    as_many : length (set es id (killed (event_at es id))) ≡ length es
    as_many = length-set es id (killed (event_at es id))

    live_id : live_at (set es id (killed (event_at es id))) id ≡ false
    unfolding live_at killed
    live_id = ap (λ (e : Event). e.live) at_id

    live_other : (i : ℕ) → (i ≡ id → ⊥) → live_at (set es id (killed (event_at es id))) i ≡ live_at es i
    unfolding live_at
    live_other i n = ap (λ (e : Event). e.live) (at_other i n)

    body_same : (i : ℕ) → (event_at es i).body ≡ (event_at (set es id (killed (event_at es id))) i).body
    unfolding killed
    body_same i = elim (ℕ_discrete i id) [
      | yes n ↦ subst (λ (j : ℕ). (event_at es j).body ≡ (event_at (set es id (killed (event_at es id))) j).body) (sym n) (sym (ap (λ (e : Event). e.body) at_id))
      | no n ↦ sym (ap (λ (e : Event). e.body) (at_other i n))
    ]

    x_same : (i : ℕ) → (event_at es i).x ≡ (event_at (set es id (killed (event_at es id))) i).x
    unfolding gone
    x_same i = sym (gone_x es id d.there i)

    z_same : (i : ℕ) → (event_at es i).z ≡ (event_at (set es id (killed (event_at es id))) i).z
    unfolding gone
    z_same i = sym (gone_z es id d.there i)

    in_id : (j : ℕ) → in_bucket cap j (set es id (killed (event_at es id))) id ≡ false
    unfolding in_bucket
    in_id j = ap (λ (b : Bool). b && body_in cap j (event_at (set es id (killed (event_at es id))) id).body) live_id

    in_other : (j i : ℕ) → (i ≡ id → ⊥) → in_bucket cap j (set es id (killed (event_at es id))) i ≡ in_bucket cap j es i
    unfolding in_bucket live_at
    in_other j i n = ap (λ (e : Event). e.live && body_in cap j e.body) (at_other i n)

    -- the words then
    before_low : (c : ℕ) → Spot (in_bucket cap k es) (length es) cap k c un.before.upper → c < 2 + 2 * cap
    before_low c (inl s) = omega (arith, s.0)
    before_low c (inr s) = omega (arith, s.0, s.1)

    late : (j : ℕ) → 2 + 2 * cap ≤ j → get_or g j 0 ≡ get_or f j 0
    late j b = un.other j (λ e. omega (arith, before_low un.cell un.before.place))

    kept : (j : ℕ) → 2 + 2 * cap ≤ j → (j ≡ sig_place cap + id → ⊥) → (j ≡ alive_place cap l + id / 64 → ⊥) → get_or g j 0 ≡ get_or h j 0
    kept j b s t = late j b ∙ w.other j s t

    -- a cell of another bucket's chain is not the one that is written
    head_apart : (j : ℕ) → j < cap → (j ≡ k → ⊥) → Spot (in_bucket cap k es) (length es) cap k un.cell un.before.upper → head_place j ≡ un.cell → ⊥
    head_apart j jb n (inl s) e = n (omega (arith, s.0))
    head_apart j jb n (inr s) e = omega (arith, s.0)

    link_apart : (j i : ℕ) → (j ≡ k → ⊥) → in_bucket cap j es i ≡ true → Spot (in_bucket cap k es) (length es) cap k un.cell un.before.upper → link_place cap i ≡ un.cell → ⊥
    link_apart j i n t (inl s) e = omega (arith, s.0)
    link_apart j i n t (inr s) e =
        let u : un.before.upper ≡ i = omega (arith, s.0) in
        n (in_one cap j k (event_at es i).body (in_live cap j es i t).1 (in_live cap k es i (subst (λ (x : ℕ). in_bucket cap k es x ≡ true) u s.2)).1)

    not_in : (j : ℕ) → (j ≡ k → ⊥) → in_bucket cap j es id ≡ false
    not_in j n = go (in_bucket cap j es id) refl
      where
        go : (b : Bool) → in_bucket cap j es id ≡ b → in_bucket cap j es id ≡ false
        go true e = absurd (n (in_one cap j k (event_at es id).body (in_live cap j es id e).1 (in_live cap k es id dying_in).1))
        go false e = e

    in_all : (j : ℕ) → (j ≡ k → ⊥) → (i : ℕ) → in_bucket cap j es i ≡ in_bucket cap j (set es id (killed (event_at es id))) i
    in_all j n i = elim (ℕ_discrete i id) [
      | yes m ↦ ap (in_bucket cap j es) m ∙ not_in j n ∙ sym (ap (in_bucket cap j (set es id (killed (event_at es id)))) m ∙ in_id j)
      | no m ↦ sym (in_other j i m)
    ]

    gone_chain : (j : ℕ) → j < cap → Chained (in_bucket cap j (set es id (killed (event_at es id)))) (length es) cap j g
    gone_chain j jb = elim (ℕ_discrete j k) [
      | yes n ↦
          subst (λ (x : ℕ). Chained (in_bucket cap x (set es id (killed (event_at es id)))) (length es) cap x g) (sym n)
          (shorter (in_bucket cap k es) (in_bucket cap k (set es id (killed (event_at es id)))) (length es) cap k id f g there (in_id k) (in_other k) dying_chain un)
      | no n ↦ record {
        head = un.other (head_place j) (head_apart j jb n un.before.place) ∙ (chain_kept j jb).head
            ∙ newest_same (in_bucket cap j es) (in_bucket cap j (set es id (killed (event_at es id)))) (length es) (λ i b. in_all j n i);
        link = λ i b t.
            let s : in_bucket cap j es i ≡ true = in_all j n i ∙ t in
            un.other (link_place cap i) (link_apart j i n s un.before.place) ∙ (chain_kept j jb).link i b s
            ∙ newest_same (in_bucket cap j es) (in_bucket cap j (set es id (killed (event_at es id)))) i (λ x y. in_all j n x);
      }
    ]

    gone_Chains : Chains cap (set es id (killed (event_at es id))) g
    gone_Chains j jb = subst (λ (n : ℕ). Chained (in_bucket cap j (set es id (killed (event_at es id)))) n cap j g) (sym as_many) (gone_chain j jb)

    gone_Bodies : Bodies cap (set es id (killed (event_at es id))) g
    gone_Bodies = record {
      label = λ i b.
          let s : i < length es = omega (arith, as_many) in
          subst (λ (y : Body). LabelAt g (label_place cap i) y) (body_same i)
          (label_same h g (label_place cap i) (event_at es i).body (kept (label_place cap i) (omega arith) (λ e. omega arith) (λ e. omega arith))
          (kept (label_place cap i + 1) (omega arith) (λ e. omega arith) (λ e. omega arith)) (held.bodies.label i s));
      tag = λ i b.
          let s : i < length es = omega (arith, as_many) in
          kept (tag_place cap i) (omega arith) (λ e. omega arith) (λ e. omega arith) ∙ held.bodies.tag i s ∙ ap body_word (body_same i);
      small = λ i b.
          let s : i < length es = omega (arith, as_many) in
          subst (λ (y : Body). tag_at y < 2 ^ 32) (body_same i) (held.bodies.small i s);
    }

    gone_Signed : scans.Signed l (set es id (killed (event_at es id))) g (sig_place cap)
    gone_Signed i b =
        let s : i < length es = omega (arith, as_many) in
        elim (ℕ_discrete i id) [
          | yes n ↦
              ap (λ (j : ℕ). get_or g (sig_place cap + j) 0) n ∙ late (sig_place cap + id) (omega arith) ∙ w.sig_word
              ∙ ap (λ (y : Bool). cond y (signature l (event_at (set es id (killed (event_at es id))) i).x (event_at (set es id (killed (event_at es id))) i).z) 0)
              (sym (ap (live_at (set es id (killed (event_at es id)))) n ∙ live_id))
          | no n ↦
              kept (sig_place cap + i) (omega arith) (λ e. n (omega arith)) (λ e. omega arith) ∙ held.signed i s ∙ cond_same i n
        ]
      where
        cond_same : (i : ℕ) → (i ≡ id → ⊥) → cond (live_at es i) (signature l (event_at es i).x (event_at es i).z) 0
            ≡ cond (live_at (set es id (killed (event_at es id))) i) (signature l (event_at (set es id (killed (event_at es id))) i).x (event_at (set es id (killed (event_at es id))) i).z) 0
        cond_same i n = unfold live_at in ap (λ (e : Event). cond e.live (signature l e.x e.z) 0) (sym (at_other i n))

    axis_kept : (i j : ℕ) → i < length es → j < 2 * l → get_or g (axis_place cap + i * (2 * l) + j) 0 ≡ get_or h (axis_place cap + i * (2 * l) + j) 0
    axis_kept i j b c =
        let u : axis_place cap + i * (2 * l) + 2 * l ≤ alive_place cap l = axis_inside cap l i (omega arith) in
        kept (axis_place cap + i * (2 * l) + j) (omega arith) (λ e. omega (arith, d.there)) (λ e. omega arith)

    axis_kept_z : (i j : ℕ) → i < length es → j < l → get_or g (axis_place cap + i * (2 * l) + l + j) 0 ≡ get_or h (axis_place cap + i * (2 * l) + l + j) 0
    axis_kept_z i j b c =
        let s : axis_place cap + i * (2 * l) + (l + j) ≡ axis_place cap + i * (2 * l) + l + j = omega arith in
        subst (λ (x : ℕ). get_or g x 0 ≡ get_or h x 0) s (axis_kept i (l + j) b (omega arith))

    gone_Axed : Axed l (set es id (killed (event_at es id))) g (axis_place cap)
    gone_Axed = record {
      xs = λ i b.
          let s : i < length es = omega (arith, as_many) in
          value_same h g l (axis_place cap + i * (2 * l)) (axis_place cap + i * (2 * l)) (λ j c. axis_kept i j s (omega arith)) ∙ held.axed.xs i s ∙ x_same i;
      zs = λ i b.
          let s : i < length es = omega (arith, as_many) in
          value_same h g l (axis_place cap + i * (2 * l) + l) (axis_place cap + i * (2 * l) + l) (λ j c. axis_kept_z i j s c) ∙ held.axed.zs i s ∙ z_same i;
    }

    alive_kept : (x : ℕ) → (x ≡ id / 64 → ⊥) → get_or g (alive_place cap l + x) 0 ≡ get_or h (alive_place cap l + x) 0
    alive_kept x n = kept (alive_place cap l + x) (omega arith) (λ e. omega (arith, d.there)) (λ e. n (omega arith))

    alive_here : get_or g (alive_place cap l + id / 64) 0 ≡ bit_and (get_or h (alive_place cap l + id / 64) 0) ((2 ^ 64 - 1) - 2 ^ (id % 64))
    alive_here = late (alive_place cap l + id / 64) (omega arith) ∙ w.live_word

    in_word : (i : ℕ) → i % 64 < 64
    in_word i = omega arith

    alive_id : live_in g (alive_place cap l) id ≡ 0
    alive_id = ap (λ (x : ℕ). has x (id % 64)) alive_here ∙ clear_same 64 (get_or h (alive_place cap l + id / 64) 0) (id % 64) (in_word id)

    alive_same : (i : ℕ) → (i ≡ id → ⊥) → i / 64 ≡ id / 64 → live_in g (alive_place cap l) i ≡ live_in h (alive_place cap l) i
    alive_same i n e =
        ap (λ (x : ℕ). has (get_or g (alive_place cap l + x) 0) (i % 64)) e ∙ ap (λ (x : ℕ). has x (i % 64)) alive_here
        ∙ clear_other 64 (get_or h (alive_place cap l + id / 64) 0) (id % 64) (i % 64) (in_word id) (in_word i) (λ m. n (omega arith))
        ∙ ap (λ (x : ℕ). has (get_or h (alive_place cap l + x) 0) (i % 64)) (sym e)

    alive_other : (i : ℕ) → (i ≡ id → ⊥) → live_in g (alive_place cap l) i ≡ live_in h (alive_place cap l) i
    alive_other i n = elim (ℕ_discrete (i / 64) (id / 64)) [
      | yes e ↦ alive_same i n e
      | no e ↦ ap (λ (x : ℕ). has x (i % 64)) (alive_kept (i / 64) e)
    ]

    gone_Alive : Alive (alive_place cap l) (set es id (killed (event_at es id))) g
    gone_Alive i b = elim (ℕ_discrete i id) [
      | yes n ↦ subst (λ (j : ℕ). live_in g (alive_place cap l) j ≡ cond (live_at (set es id (killed (event_at es id))) j) 1 0) (sym n) (alive_id ∙ ap (λ (y : Bool). cond y 1 0) (sym live_id))
      | no n ↦ alive_other i n ∙ held.alive i (subst (λ (x : ℕ). i < words x * 64) as_many b) ∙ ap (λ (y : Bool). cond y 1 0) (sym (live_other i n))
    ]

    -- the cell that is written is a head or the link of another live rotation
    taken : (j c : ℕ) → Spot (in_bucket cap k es) (length es) cap k c un.before.upper → j ≡ c → LeftBy cap l es id j
    taken j c (inl s) e = inl (omega (arith, s.0), omega (arith, s.0))
    taken j c (inr s) e =
        let u = un.before.upper in
        let v = in_live cap k es u s.2 in
        let m = newest_hit (in_bucket cap k es) u id un.before.next in
        inr (inl (u, s.1, v.0, in_rotation cap k (event_at es u).body v.1, (λ q. omega (arith, m.0)), e ∙ s.0))

    pub dead : Gone cap l es id h g
    dead = record {
      held = record { chains = gone_Chains; bodies = gone_Bodies; signed = gone_Signed; axed = gone_Axed; alive = gone_Alive };
      only = record {
        same_length = long ∙ w.long;
        kept = λ j n.
            un.other j (λ e. n (taken j un.cell un.before.place e))
            ∙ w.other j (λ e. n (inr (inr (inl e)))) (λ e. n (inr (inr (inr e))));
      };
    }
