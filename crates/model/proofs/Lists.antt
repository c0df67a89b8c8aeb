-- What the lists keep: their numbers rise, each live event stands in every list of its support and in no other, and at most a quarter (scalar) or
-- half (sliced) of a list is dead. Assumes nothing.
use Prim.Native.Nat.{ℕ, zero, suc, ◌+◌, ◌*◌, ◌≤◌, ◌<◌}
use mathlib.Core.Path.{◌≡◌, refl, sym, ap, ap₂, ◌∙◌, subst}
use mathlib.Core.Logic.{◌≢◌, inl, inr, ⊎_elim}
use mathlib.Core.Bool.{Bool, true, false, cond, not}
use mathlib.Core.List.{List, [], ◌∷◌, ◌++◌, map, append-nil}
use native.Mathlib.Omega.{arith}
use native.Mathlib.Decide.{ℕ_discrete}
use native.Mathlib.Nat.{not-suc-le-zero, le_of_suc-le-suc, add-zero, zero-add, lt_irrefl}
use lib.ListN.{length, get_or, set, length-append, length-set, length-map, get_or-append}
use lib.Seq.{get_or-append_seam, get_or-set_same, get_or-set_other}
use lib.Dec.{ltb, eqb}
use borrow.Author.Tests.{ltb-false, le-ltb, eq-eqb, ne_eqb}
use Rattle.model.specs.Events.{Event, Form, State, plane, keep, touches, no_event, event_at, live_at, push, record1, killed, dead, factor, tidy, kill, clear}
use Rattle.model.specs.Search.{list_at}
use Rattle.model.specs.Demands.{Mem, Rising}
use Rattle.model.proofs.Members.{clash, Mem-left, Mem-right, Mem-append, Mem-keep, keep-Mem, keep_same, keep_none, keep_append, keep_yes, keep_no, rising_snoc, Rising-keep}

-- list b of a state whose events are es
pub record ListOk (l : ℕ) (f : Form) (es : List Event) (b : ℕ) (s : List ℕ) : Type 0 where
  pub rising : Rising s
  pub bound : (i : ℕ) → Mem i s → i < length es
  pub support : (i : ℕ) → Mem i s → touches l (event_at es i).x (event_at es i).z b ≡ true
  pub whole : (i : ℕ) → i < length es → live_at es i ≡ true → touches l (event_at es i).x (event_at es i).z b ≡ true → Mem i s
  pub share : factor f * dead es s ≤ length s

pub record ListsOk (s : State) : Type 0 where
  pub ok : (b : ℕ) → b < length s.lists → ListOk (plane s) s.given.form s.events b (list_at s b)

-- ---- recording

module _ (es : List Event) (e : Event) where
  pub at_old : (i : ℕ) → i < length es → event_at (es ++ (e ∷ [])) i ≡ event_at es i
  unfolding event_at
  at_old i h = get_or-append es (e ∷ []) no_event i h

  pub at_new : event_at (es ++ (e ∷ [])) (length es) ≡ e
  unfolding event_at
  at_new = get_or-append_seam es e [] no_event

  pub live_old : (i : ℕ) → i < length es → live_at (es ++ (e ∷ [])) i ≡ live_at es i
  unfolding live_at
  live_old i h = ap (λ (w : Event). w.live) (at_old i h)

  live_new : e.live ≡ true → live_at (es ++ (e ∷ [])) (length es) ≡ true
  unfolding live_at
  live_new h = ap (λ (w : Event). w.live) at_new ∙ h

  pub length_new : length (es ++ (e ∷ [])) ≡ suc (length es)
  length_new = length-append es (e ∷ []) ∙ line (length es)
    where
      line : (n : ℕ) → n + 1 ≡ suc n
      line n = omega arith

  -- the dead of a list of old events are what they were
  pub dead_old : (s : List ℕ) → ((i : ℕ) → Mem i s → i < length es) → dead (es ++ (e ∷ [])) s ≡ dead es s
  unfolding dead
  dead_old s h = ap length (keep_same _ _ s (λ i m. ap not (live_old i (h i m))))

  dead_snoc : (s : List ℕ) → ((i : ℕ) → Mem i s → i < length es) → e.live ≡ true → dead (es ++ (e ∷ [])) (s ++ (length es ∷ [])) ≡ dead es s
  unfolding dead
  dead_snoc s h v =
      ap length (keep_append _ s (length es ∷ []))
      ∙ ap (λ (w : List ℕ). length (keep (λ i. not (live_at (es ++ (e ∷ [])) i)) s ++ w)) (keep_none _ (length es ∷ []) (λ i m. off i m))
      ∙ ap length (append-nil (keep (λ i. not (live_at (es ++ (e ∷ [])) i)) s)) ∙ dead_old s h
    where
      off : (i : ℕ) → Mem i (length es ∷ []) → not (live_at (es ++ (e ∷ [])) i) ≡ false
      off i (inl q) = ap (λ (w : ℕ). not (live_at (es ++ (e ∷ [])) w)) q ∙ ap not (live_new v)
      off i (inr m) = absurd m

module _ (l : ℕ) (f : Form) (es : List Event) (e : Event) (v : e.live ≡ true) (b : ℕ) (s : List ℕ) (k : ListOk l f es b s) where
  old_bound : (i : ℕ) → Mem i s → i < length (es ++ (e ∷ []))
  old_bound i m = omega (arith, k.bound i m, length_new es e)

  old_support : (i : ℕ) → Mem i s → touches l (event_at (es ++ (e ∷ [])) i).x (event_at (es ++ (e ∷ [])) i).z b ≡ true
  old_support i m = rw (at_old es e i (k.bound i m)) (k.support i m)

  -- the event touches the list
  ok_snoc : touches l e.x e.z b ≡ true → ListOk l f (es ++ (e ∷ [])) b (s ++ (length es ∷ []))
  ok_snoc t = record {
    rising = rising_snoc s (length es) k.rising k.bound;
    bound = (λ i m. ⊎_elim (old_bound i) (⊎_elim (λ (q : i ≡ length es). omega (arith, length_new es e)) (λ m. absurd m)) (Mem-append i s (length es ∷ []) m));
    support = (λ i m. ⊎_elim (old_support i) (⊎_elim (λ (q : i ≡ length es). rw (q, at_new es e) t) (λ m. absurd m)) (Mem-append i s (length es ∷ []) m));
    whole = (λ i h a w. go i h a w (ℕ_discrete i (length es)));
    share = rw (dead_snoc es e s k.bound v, length-append s (length es ∷ [])) (omega (arith, k.share));
  }
    where
      go : (i : ℕ) → i < length (es ++ (e ∷ [])) → live_at (es ++ (e ∷ [])) i ≡ true
          → touches l (event_at (es ++ (e ∷ [])) i).x (event_at (es ++ (e ∷ [])) i).z b ≡ true → Dec (i ≡ length es) → Mem i (s ++ (length es ∷ []))
      go i h a w (yes q) = Mem-right i s (length es ∷ []) (inl q)
      go i h a w (no q) =
          let j : i < length es = omega (arith, length_new es e) in
          Mem-left i s (length es ∷ []) (k.whole i j (sym (live_old es e i j) ∙ a) (rw (at_old es e i j) at w))

  -- it does not
  ok_keep : touches l e.x e.z b ≡ false → ListOk l f (es ++ (e ∷ [])) b s
  ok_keep t = record {
    rising = k.rising;
    bound = old_bound;
    support = old_support;
    whole = (λ i h a w. go i h a w (ℕ_discrete i (length es)));
    share = rw (dead_old es e s k.bound) k.share;
  }
    where
      go : (i : ℕ) → i < length (es ++ (e ∷ [])) → live_at (es ++ (e ∷ [])) i ≡ true
          → touches l (event_at (es ++ (e ∷ [])) i).x (event_at (es ++ (e ∷ [])) i).z b ≡ true → Dec (i ≡ length es) → Mem i s
      go i h a w (yes q) = clash _ (rw (q, at_new es e) at w) t
      go i h a w (no q) =
          let j : i < length es = omega (arith, length_new es e) in
          k.whole i j (sym (live_old es e i j) ∙ a) (rw (at_old es e i j) at w)

pub push-length : (l id : ℕ) (e : Event) (b : ℕ) (ls : List (List ℕ)) → length (push l id e b ls) ≡ length ls
unfolding push
push-length l id e b [] = refl
push-length l id e b (s ∷ ss) = ap suc (push-length l id e (suc b) ss)

pub push_at : (l id : ℕ) (e : Event) (b : ℕ) (ls : List (List ℕ)) (c : ℕ) → c < length ls
    → get_or (push l id e b ls) c [] ≡ cond (touches l e.x e.z (b + c)) (get_or ls c [] ++ (id ∷ [])) (get_or ls c [])
unfolding push
push_at l id e b [] c h = absurd (not-suc-le-zero h)
push_at l id e b (s ∷ ss) zero h = ap (λ (w : ℕ). cond (touches l e.x e.z w) (s ++ (id ∷ [])) s) (sym (add-zero b))
push_at l id e b (s ∷ ss) (suc c) h =
    push_at l id e (suc b) ss c (le_of_suc-le-suc h)
    ∙ ap (λ (w : ℕ). cond (touches l e.x e.z w) (get_or ss c [] ++ (id ∷ [])) (get_or ss c [])) line
  where
    line : suc b + c ≡ b + suc c
    line = omega arith

pub lists_record1 : (e : Event) (s : State) → e.live ≡ true → ListsOk s → ListsOk (record1 e s)
unfolding record1 list_at
lists_record1 e s v k = record { ok = (λ b h. at b (omega (arith, push-length (plane s) (length s.events) e 0 s.lists))) }
  where
    cases : (b : ℕ) (t : Bool) → touches (plane s) e.x e.z b ≡ t → ListOk (plane s) s.given.form s.events b (get_or s.lists b [])
        → ListOk (plane s) s.given.form (s.events ++ (e ∷ [])) b (cond t (get_or s.lists b [] ++ (length s.events ∷ [])) (get_or s.lists b []))
    cases b true t o = ok_snoc (plane s) s.given.form s.events e v b (get_or s.lists b []) o t
    cases b false t o = ok_keep (plane s) s.given.form s.events e v b (get_or s.lists b []) o t

    at : (b : ℕ) → b < length s.lists
        → ListOk (plane s) s.given.form (s.events ++ (e ∷ [])) b (get_or (push (plane s) (length s.events) e 0 s.lists) b [])
    at b h =
        subst (ListOk (plane s) s.given.form (s.events ++ (e ∷ [])) b)
        (sym (push_at (plane s) (length s.events) e 0 s.lists b h
        ∙ ap (λ (w : ℕ). cond (touches (plane s) e.x e.z w) (get_or s.lists b [] ++ (length s.events ∷ [])) (get_or s.lists b [])) (zero-add b)))
        (cases b (touches (plane s) e.x e.z b) refl (k.ok b h))

-- ---- kill

module _ (es : List Event) (id : ℕ) (h : id < length es) where
  unfoldable pub gone : List Event
  gone = set es id (killed (event_at es id))

  pub gone_at : event_at gone id ≡ killed (event_at es id)
  unfolding gone event_at
  gone_at = get_or-set_same es id (killed (get_or es id no_event)) no_event h

  pub gone_other : (i : ℕ) → i ≢ id → event_at gone i ≡ event_at es i
  unfolding gone event_at
  gone_other i n = get_or-set_other es id i (killed (get_or es id no_event)) no_event n

  pub gone_x : (i : ℕ) → (event_at gone i).x ≡ (event_at es i).x
  unfolding killed
  gone_x i = go (ℕ_discrete i id)
    where
      go : Dec (i ≡ id) → (event_at gone i).x ≡ (event_at es i).x
      go (yes q) = rw q (ap (λ (w : Event). w.x) gone_at)
      go (no q) = ap (λ (w : Event). w.x) (gone_other i q)

  pub gone_z : (i : ℕ) → (event_at gone i).z ≡ (event_at es i).z
  unfolding killed
  gone_z i = go (ℕ_discrete i id)
    where
      go : Dec (i ≡ id) → (event_at gone i).z ≡ (event_at es i).z
      go (yes q) = rw q (ap (λ (w : Event). w.z) gone_at)
      go (no q) = ap (λ (w : Event). w.z) (gone_other i q)

  -- what is live after was live before
  pub gone_live : (i : ℕ) → live_at gone i ≡ true → live_at es i ≡ true
  unfolding killed live_at
  gone_live i a = go (ℕ_discrete i id)
    where
      go : Dec (i ≡ id) → (event_at es i).live ≡ true
      go (yes q) = clash (event_at gone i).live a (ap (λ (w : ℕ). (event_at gone w).live) q ∙ ap (λ (w : Event). w.live) gone_at)
      go (no q) = sym (ap (λ (w : Event). w.live) (gone_other i q)) ∙ a

  module _ (l : ℕ) (f : Form) (b : ℕ) (s : List ℕ) (k : ListOk l f es b s) where
    gone-length : length gone ≡ length es
    unfolding gone
    gone-length = length-set es id (killed (event_at es id))

    gone_bound : (i : ℕ) → Mem i s → i < length gone
    gone_bound i m = omega (arith, k.bound i m, gone-length)

    gone_support : (i : ℕ) → Mem i s → touches l (event_at gone i).x (event_at gone i).z b ≡ true
    gone_support i m = rw (gone_x i, gone_z i) (k.support i m)

    gone_whole : (i : ℕ) → i < length gone → live_at gone i ≡ true → touches l (event_at gone i).x (event_at gone i).z b ≡ true → Mem i s
    gone_whole i j a w = k.whole i (omega (arith, gone-length)) (gone_live i a) (rw (gone_x i, gone_z i) at w)

    none_dead : dead gone (keep (live_at gone) s) ≡ 0
    unfolding dead
    none_dead = ap length (keep_none _ (keep (live_at gone) s) (λ i m. ap not (keep-Mem (live_at gone) i s m).1))

    ok_tidy : ListOk l f gone b (tidy f gone s)
    unfolding tidy
    ok_tidy = go (ltb (length s) (factor f * dead gone s)) refl
      where
        go : (t : Bool) → ltb (length s) (factor f * dead gone s) ≡ t → ListOk l f gone b (cond t (keep (live_at gone) s) s)
        go true t = record {
          rising = Rising-keep (live_at gone) s k.rising;
          bound = (λ i m. gone_bound i (keep-Mem (live_at gone) i s m).0);
          support = (λ i m. gone_support i (keep-Mem (live_at gone) i s m).0);
          whole = (λ i j a w. Mem-keep (live_at gone) i s (gone_whole i j a w) a);
          share = rw none_dead (omega arith);
        }
        go false t = record {
          rising = k.rising;
          bound = gone_bound;
          support = gone_support;
          whole = gone_whole;
          share = ltb-false (length s) (factor f * dead gone s) t;
        }

get_d_map : (f : List ℕ → List ℕ) (ls : List (List ℕ)) (b : ℕ) → b < length ls → get_or (map f ls) b [] ≡ f (get_or ls b [])
get_d_map f [] b h = absurd (not-suc-le-zero h)
get_d_map f (s ∷ ss) zero h = refl
get_d_map f (s ∷ ss) (suc b) h = get_d_map f ss b (le_of_suc-le-suc h)

pub lists_kill : (id : ℕ) (s : State) → id < length s.events → ListsOk s → ListsOk (kill id s)
unfolding kill list_at gone
lists_kill id s j k = record { ok = (λ b h. at b (omega (arith, length-map s.lists (tidy s.given.form (gone s.events id j))))) }
  where
    at : (b : ℕ) → b < length s.lists
        → ListOk (plane s) s.given.form (gone s.events id j) b (get_or (map (tidy s.given.form (gone s.events id j)) s.lists) b [])
    at b h =
        subst (ListOk (plane s) s.given.form (gone s.events id j) b)
        (sym (get_d_map (tidy s.given.form (gone s.events id j)) s.lists b h))
        (ok_tidy s.events id j (plane s) s.given.form b (get_or s.lists b []) (k.ok b h))

pub lists_clear : (s : State) → ListsOk s → ListsOk (clear s)
unfolding clear list_at
lists_clear s k = record { ok = k.ok }

-- ---- what an implementation may use

-- only the lists that the killed event touches can change
pub kill_list : (id : ℕ) (s : State) → id < length s.events → ListsOk s → (b : ℕ) → b < length s.lists
    → list_at (kill id s) b ≡ cond (touches (plane s) (event_at s.events id).x (event_at s.events id).z b) (tidy s.given.form (kill id s).events (list_at s b)) (list_at s b)
unfolding kill list_at
kill_list id s j k b h = get_d_map (tidy s.given.form es) s.lists b h ∙ go (touches (plane s) (event_at s.events id).x (event_at s.events id).z b) refl
  where
    es : List Event
    es = set s.events id (killed (event_at s.events id))

    o : ListOk (plane s) s.given.form s.events b (get_or s.lists b [])
    o = k.ok b h

    far : touches (plane s) (event_at s.events id).x (event_at s.events id).z b ≡ false → (i : ℕ) → Mem i (get_or s.lists b []) → i ≢ id
    far t i m e = clash _ (rw e at (o.support i m)) t

    same : touches (plane s) (event_at s.events id).x (event_at s.events id).z b ≡ false → dead es (get_or s.lists b []) ≡ dead s.events (get_or s.lists b [])
    same t = unfold dead live_at gone in ap length (keep_same _ _ (get_or s.lists b []) (λ i m. ap (λ (e : Event). not e.live) (gone_other s.events id j i (far t i m))))

    go : (t : Bool) → touches (plane s) (event_at s.events id).x (event_at s.events id).z b ≡ t
        → tidy s.given.form es (get_or s.lists b []) ≡ cond t (tidy s.given.form es (get_or s.lists b [])) (get_or s.lists b [])
    go true t = refl
    go false t =
        unfold tidy in
        ap (λ (w : Bool). cond w (keep (live_at es) (get_or s.lists b [])) (get_or s.lists b []))
        (ap (λ (w : ℕ). ltb (length (get_or s.lists b [])) (factor s.given.form * w)) (same t)
        ∙ le-ltb (length (get_or s.lists b [])) (factor s.given.form * dead s.events (get_or s.lists b [])) o.share)

-- an entry stands in a rising list once
pub once : (i : ℕ) (s : List ℕ) → Rising s → Mem i s → keep (eqb i) s ≡ i ∷ []
once i [] r m = absurd m
once i (a ∷ s) r (inl e) =
    keep_yes (eqb i) a s (eq-eqb i a e)
    ∙ ap₂ {C = List ℕ} (λ u v. u ∷ v) (sym e) (keep_none (eqb i) s (λ j n. ne_eqb i j (λ q. lt_irrefl a (subst (λ (w : ℕ). a < w) (sym q ∙ e) (r.0 j n)))))
once i (a ∷ s) r (inr m) = keep_no (eqb i) a s (ne_eqb i a (λ q. lt_irrefl a (subst (λ (w : ℕ). a < w) q (r.0 i m)))) ∙ once i s r.1 m
