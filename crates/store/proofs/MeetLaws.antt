-- Each way in which a call ends, and that it then keeps its promise: one law for each, so that a call's proof cites one at each return.
-- Assumes nothing.
use mathlib.Core.Path.{◌≡◌, refl, sym, ap, ◌∙◌, subst}
use mathlib.Core.Logic.{inl, inr}
use mathlib.Core.List.{List, [], ◌∷◌, ◌++◌}
use Prim.Native.Nat.{ℕ, suc, ◌≤◌}
use native.Mathlib.Omega.{arith}
use lib.ListN.{length}
use borrow.Author.Tests.{eq-eqb, ne_eqb}
use Rattle.model.specs.Events.{Opening, State}
use Rattle.model.specs.Calls.{open_answer, opened, Call, Lent, answer_to, Reply, refused, reply_of, reply, effect, call, calls}
use Rattle.model.proofs.Theorems.{refusal_changes_nothing}
use Rattle.model.proofs.Good.{Good, reached}
use Rattle.store.specs.Stores.{Reached, Held, StoredTo, HeldTo}
use Rattle.store.specs.Promises.{number, Answers, Meets}
use Rattle.store.specs.Checks.{Enough, TooShort as Short, Damaged, Unsound}
use Rattle.store.specs.declared.refusals.Refusal.{Refusal}
use Rattle.store.specs.declared.refusals.Refusal.TheVariants.{TooShort, NoSuchQubit, SameQubit, Full, NoSuchEvent, Turn, Corrupt}
use Rattle.store.specs.Refusals.{code_of}
use Rattle.store.proofs.SizeLaws.{Stored-long}

-- ---- states that calls leave

calls_behind : (cs : List Lent) (c : Lent) (s : State) → calls (cs ++ (c ∷ [])) s ≡ call c.call c.store (calls cs s)
unfolding calls
calls_behind [] c s = refl
calls_behind (d ∷ cs) c s = calls_behind cs c (call d.call d.store s)

pub Reached-open : (o : Opening) → open_answer o ≡ 0 → Reached (opened o)
unfolding calls
Reached-open o h = record { first = o; accepted = h; since = []; is = refl }

pub Reached-call : (c : Call) (w : ℕ) (m : State) → Reached m → Reached (call c w m)
Reached-call c w m r = record {
  first = r.first;
  accepted = r.accepted;
  since = r.since ++ (record { call = c; store = w } ∷ []);
  is = ap (call c w) r.is ∙ sym (calls_behind r.since (record { call = c; store = w }) (opened r.first));
}

pub Reached-Good : (m : State) → Reached m → Good m
Reached-Good m r = subst Good (sym r.is) (reached r.first r.accepted r.since)

-- ---- a slice that is not too short

Enough-long : (s : List ℕ) → Enough s → Short s → ⊥
Enough-long s e (inl a) = omega (arith, e.header)
Enough-long s e (inr a) = omega (arith, e.size)

-- ---- the answer

module _ (c : Call) (s : List ℕ) where
  -- an answer that is right on the states held, from a slice that is not too short
  pub says_Answers : Enough s → (r : Reply) → number r ≤ 9 → ((m : State) → Held m s → r ≡ reply c (length s) m) → Answers c s r
  says_Answers e r few h = record {
    headless = λ a. absurd (Enough-long s e (inl a));
    shorter = λ a. absurd (Enough-long s e (inr a));
    known = few;
    meaning = h;
  }

  pub short_Answers : Short s → Answers c s (refused 3)
  unfolding number
  short_Answers t = record {
    headless = λ a. refl;
    shorter = λ a. refl;
    known = omega arith;
    meaning = λ m h. absurd (Stored-long m s t h.stored);
  }

  -- 9, on words that hold no state that calls leave
  pub nine_Answers : Enough s → ((m : State) → Held m s → ⊥) → Answers c s (refused 9)
  unfolding number
  nine_Answers e h = says_Answers e (refused 9) (omega arith) (λ m q. absurd (h m q))

  pub Damaged-Answers : Damaged s → Answers c s (refused 9)
  Damaged-Answers d = nine_Answers d.0 (λ m q. d.1 m q.stored)

  pub unsound_Answers : (e : Refusal) → Unsound e s → Answers c s (refused (code_of e))
  unsound_Answers TooShort t = short_Answers t
  unsound_Answers NoSuchQubit t = absurd t
  unsound_Answers SameQubit t = absurd t
  unsound_Answers Full t = absurd t
  unsound_Answers NoSuchEvent t = absurd t
  unsound_Answers Turn t = absurd t
  unsound_Answers Corrupt d = Damaged-Answers d

  refused-reply : (m : State) (k : ℕ) → answer_to c (length s) m ≡ suc k → refused (suc k) ≡ reply c (length s) m
  unfolding reply
  refused-reply m k e = rw (e, ne_eqb (suc k) 0 (λ q. omega (arith, q))) refl

  accepted_reply : (m : State) → answer_to c (length s) m ≡ 0 → reply_of c m ≡ reply c (length s) m
  unfolding reply
  accepted_reply m e = rw (eq-eqb (answer_to c (length s) m) 0 e) refl

  accepted_call : (m : State) → answer_to c (length s) m ≡ 0 → effect c (length s) m ≡ call c (length s) m
  unfolding call
  accepted_call m e = rw (eq-eqb (answer_to c (length s) m) 0 e) refl

  pub refuse_Answers : Enough s → (k : ℕ) → k ≤ 7 → ((m : State) → Held m s → answer_to c (length s) m ≡ suc k) → Answers c s (refused (suc k))
  unfolding number
  refuse_Answers e k few h = says_Answers e (refused (suc k)) (omega arith) (λ m q. refused-reply m k (h m q))

  pub accept_Answers : Enough s → (r : Reply) → number r ≤ 9 → ((m : State) → Held m s → (answer_to c (length s) m ≡ 0) × (r ≡ reply_of c m)) → Answers c s r
  accept_Answers e r few h = says_Answers e r few (λ m q. (h m q).1 ∙ accepted_reply m (h m q).0)

  -- ---- all words

  -- nothing was written, and the state is as it was
  still : (m : State) → Held m s → (answer_to c (length s) m ≡ 0 → ⊥) → HeldTo (call c (length s) m) s s
  still m h e =
      subst (λ (v : State). HeldTo v s s) (sym (refusal_changes_nothing c (length s) m e))
      (record { held = h; only = record { same_length = refl; kept = λ k u. refl } })

  pub short_Meets : Short s → Meets c s (refused 3) s
  short_Meets t = record {
    answers = short_Answers t;
    untouched = λ a b. refl;
    same_length = refl;
    becomes = λ m h. absurd (Stored-long m s t h.stored);
  }

  pub refuse_Meets : Enough s → (k : ℕ) → k ≤ 7 → ((m : State) → Held m s → answer_to c (length s) m ≡ suc k) → Meets c s (refused (suc k)) s
  refuse_Meets e k few h = record {
    answers = refuse_Answers e k few h;
    untouched = λ a b. refl;
    same_length = refl;
    becomes = λ m q. still m q (λ z. omega (arith, h m q, z));
  }

  pub nine_Meets : Enough s → (t : List ℕ) → length t ≡ length s → ((m : State) → Held m s → ⊥) → Meets c s (refused 9) t
  unfolding number
  nine_Meets e t long h = record {
    answers = nine_Answers e h;
    untouched = λ a b. absurd (wrong b);
    same_length = long;
    becomes = λ m q. absurd (h m q);
  }
    where
      wrong : 9 ≤ 8 → ⊥
      wrong b = omega (arith, b)

  pub Damaged-Meets : Damaged s → Meets c s (refused 9) s
  Damaged-Meets d = nine_Meets d.0 s refl (λ m q. d.1 m q.stored)

  -- a slice that a call refuses before it does anything
  pub unsound_Meets : (e : Refusal) → Unsound e s → Meets c s (refused (code_of e)) s
  unsound_Meets TooShort t = short_Meets t
  unsound_Meets NoSuchQubit t = absurd t
  unsound_Meets SameQubit t = absurd t
  unsound_Meets Full t = absurd t
  unsound_Meets NoSuchEvent t = absurd t
  unsound_Meets Turn t = absurd t
  unsound_Meets Corrupt d = Damaged-Meets d

  pub accept_Meets : Enough s → (r : Reply) → number r ≡ 0 → (t : List ℕ) → length t ≡ length s
      → ((m : State) → Held m s → (answer_to c (length s) m ≡ 0) × (r ≡ reply_of c m) × StoredTo (effect c (length s) m) s t) → Meets c s r t
  accept_Meets e r zeroth t long h = record {
    answers = accept_Answers e r (omega (arith, zeroth)) (λ m q. ((h m q).0, (h m q).1));
    untouched = λ a b. absurd (wrong a);
    same_length = long;
    becomes = λ m q.
        subst (λ (v : State). HeldTo v s t) (accepted_call m (h m q).0)
        (record {
          held = record { reached = subst Reached (sym (accepted_call m (h m q).0)) (Reached-call c (length s) m q.reached); stored = (h m q).2.stored };
          only = (h m q).2.only;
        });
  }
    where
      wrong : 1 ≤ number r → ⊥
      wrong a = omega (arith, a, zeroth)
