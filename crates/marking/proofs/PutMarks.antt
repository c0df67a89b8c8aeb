-- Laws of records on a store: the parts that are lent for them, one record, and several in a row. Assumes nothing.
use mathlib.Core.Path.{◌≡◌, refl, sym, ap, ◌∙◌, subst}
use mathlib.Core.Logic.{inl}
use mathlib.Core.Bool.{Bool, true, false, not, true≢false}
use mathlib.Core.List.{List, [], ◌∷◌, map}
use Prim.Native.Nat.{ℕ, zero, suc, ◌+◌, ◌-◌, ◌*◌, ◌≤◌, ◌<◌}
use native.Mathlib.Omega.{arith}
use lib.IntN.{ℤ}
use lib.ListN.{length, get_or, take, drop}
use lib.Seq.{length-take-le, take_all}
use Rattle.model.specs.Pauli.{Pauli, times, sign}
use Rattle.model.specs.Frame.{Rows, axis, z_at, paulis}
use Rattle.model.specs.Sketch.{Label, labels}
use Rattle.model.specs.Events.{Event, Opening, State, event_at, record1, record_all, blocker_on}
use Rattle.model.specs.Calls.{rotation_of, seven}
use Rattle.model.specs.Demands.{IsSign, Small}
use Rattle.model.proofs.Good.{Good, EventOk, AllOk, origin, axis_ok, seven_ok}
use Rattle.model.proofs.Within.{small_times}
use Rattle.pauli.specs.Rows.{answer}
use Rattle.std.proofs.Common.{Option, Some, None, Result, Ok, is_ok}
use Rattle.frame.specs.declared.axes.Basis.{Basis}
use Rattle.frame.specs.declared.axes.Basis.TheVariants as basis
use Rattle.frame.specs.Places as frames
use Rattle.frame.specs.Places.{IsRow}
use Rattle.frame.specs.Axes.{axis_of, either, kind_of, tag_of}
use Rattle.frame.specs.declared.axes.Kind.{Kind}
use Rattle.frame.specs.declared.axes.Tag.{Tag}
use Rattle.history.specs.Words.{Holds, Sane, Becomes}
use Rattle.history.specs.Sizes.{form_of}
use Rattle.history.specs.Recordings.{Recorded}
use Rattle.history.specs.declared.events.Body.{Body}
use Rattle.history.specs.declared.events.Body.TheVariants.{Rotation, Blocker}
use Rattle.pauli.specs.declared.corrupt.Corrupt.{Corrupt}
use Rattle.history.proofs.Theorems.{Good-Sane}
use Rattle.store.specs.declared.header.Sizes.{Sizes}
use Rattle.store.specs.Stores.{Stored, StoredTo}
use Rattle.store.specs.Checks.{Fit}
use Rattle.store.proofs.Splice.{splice, splice-length, splice_out}
use Rattle.store.proofs.SizeLaws.{Own, own}
use Rattle.store.proofs.StoreLaws.{history_at, recorded_to, stored_then}
use Rattle.frame.proofs.AxisLaws.{is_sign, some_sign}
use Rattle.store.proofs.LentLaws.{room_is, lent_is, frames-Held}
use Rattle.marking.specs.Axes.{Sets}
use Rattle.marking.specs.Marks.{axis_words, rotation_about, blocker_at, product_at, products, Puts, Records}
use Rattle.marking.proofs.RowMarks.{row_Sets}
use Rattle.marking.proofs.AxisMarks.{blocker_Recorded, rotation_Recorded}
use Rattle.model.proofs.Stay.{record_given, record_frame}
use Rattle.marking.proofs.StateMarks.{record_more, record_count, Good-some}

-- a test that was false
pub off : (b : Bool) → not b ≡ true → b ≡ false
off true e = sym e
off false e = refl

-- ---- one record

-- what is lent to `record` comes back with the header and the sizes as they were
pub put_fit : (z : Sizes) (s ys : List ℕ) → Fit z s → length ys ≡ z.end - z.at → Fit z (splice z.at (z.end - z.at) s ys)
put_fit z s ys f long =
    let k : ℕ = z.end - z.at in
    let there : z.at + k ≤ length s = omega (arith, f.begins, f.ends, f.fits) in
    let same : length (splice z.at k s ys) ≡ length s = splice-length z.at k s there ys long in
    let word : (i : ℕ) → i < 14 → get_or (splice z.at k s ys) i 0 ≡ get_or s i 0 = λ i h. splice_out z.at k s there ys long i (inl (omega (arith, f.begins))) in
    record {
      framing = record {
        enough = record {
          header = omega (arith, same, f.framing.enough.header);
          size = omega (arith, same, f.framing.enough.size, word 0 (omega arith));
        };
        some = f.framing.some;
        few = f.framing.few;
        planes = f.framing.planes;
        word = word 1 (omega arith) ∙ f.framing.word;
        fits = omega (arith, same, f.framing.fits);
      };
      form_word = word 2 (omega arith) ∙ f.form_word;
      cap_word = word 3 (omega arith) ∙ f.cap_word;
      allowance_word = word 4 (omega arith) ∙ f.allowance_word;
      some = f.some;
      few = f.few;
      steps = f.steps;
      narrow = f.narrow;
      begins = f.begins;
      ends = f.ends;
      fits = omega (arith, same, f.fits);
    }

module _ (z : Sizes) (s ys row : List ℕ) (body : Body) (r : Result ℕ Corrupt) (f : Fit z s)
    (done : (m : State) (e : Event) → Holds (form_of z.form) z.n z.cap z.l m (take (z.end - z.at) (drop z.at s)) → Sane m → length m.events < z.cap
    → Recorded z.n (axis_words row) body e
    → (r ≡ Ok (length m.events)) × Becomes (form_of z.form) z.n z.cap z.l (record1 e m) (take (z.end - z.at) (drop z.at s)) ys) where
  put_to : (m : State) (e : Event) → Stored m s → Good m → length m.events < m.given.capacity → Recorded m.given.n (axis_words row) body e
      → (r ≡ Ok (length m.events)) × StoredTo (record1 e m) s (splice z.at (z.end - z.at) s ys)
  put_to m e h g room new =
      let o : Own z m = own z m s f h in
      let held : Holds (form_of z.form) z.n z.cap z.l m (take (z.end - z.at) (drop z.at s))
      = subst (λ (t : List ℕ). Holds (form_of z.form) z.n z.cap z.l m t) (sym (lent_is z s f))
      (history_at (form_of z.form) z.n z.cap z.l m s o.form o.qubits o.capacity o.planes h) in
      let w = done m e held (Good-Sane m g) (omega (arith, o.capacity)) (subst (λ (n : ℕ). Recorded n (axis_words row) body e) o.qubits new) in (
        w.0,
        subst (λ (a : ℕ). StoredTo (record1 e m) s (splice a (z.end - z.at) s ys)) (sym f.begins)
            (recorded_to (form_of z.form) z.n z.cap z.l m s ys (z.end - z.at) o.form o.qubits o.capacity o.planes e h (room_is z s f)
            (omega (arith, f.ends, f.fits))
            (subst (λ (t : List ℕ). Becomes (form_of z.form) z.n z.cap z.l (record1 e m) t ys) (lent_is z s f) w.1)),
      )

  pub put_done : Puts row body s (is_ok r) (splice z.at (z.end - z.at) s ys)
  put_done m e h g room new = let w = put_to m e h g room new in (ap is_ok w.0, w.1)

-- ---- one event of a state

Small-axis : (m : State) → Good m → (which : Basis) (q : ℕ) → Small m.given.n (axis_of which m.frame q)
unfolding axis_of either
Small-axis m g basis.X q = g.within.all_x q
Small-axis m g basis.Z q = g.within.all_z q

Small-seven : (n : ℕ) (a b t : Pauli) (i : ℕ) → i < 7 → Small n a → Small n b → Small n t → Small n (get_or (seven a b t) i paulis.unit)
unfolding seven
Small-seven n a b t zero h ha hb ht = ha
Small-seven n a b t (suc zero) h ha hb ht = hb
Small-seven n a b t (suc (suc zero)) h ha hb ht = small_times n a b ha hb
Small-seven n a b t (suc (suc (suc zero))) h ha hb ht = ht
Small-seven n a b t (suc (suc (suc (suc zero)))) h ha hb ht = small_times n a t ha ht
Small-seven n a b t (suc (suc (suc (suc (suc zero))))) h ha hb ht = small_times n b t hb ht
Small-seven n a b t (suc (suc (suc (suc (suc (suc zero)))))) h ha hb ht = small_times n (times a b) t (small_times n a b ha hb) ht
Small-seven n a b t (suc (suc (suc (suc (suc (suc (suc i))))))) h ha hb ht = absurd (omega arith)

module _ (z : Sizes) (s row : List ℕ) (f : Fit z s) (long : length row ≡ 2 * z.l + 1) where
  block_Records : (t : List ℕ) (r : Bool) (p : State → Pauli) → ((m : State) → Stored m s → Sets z.l row (p m)) → ((m : State) → Good m → Small m.given.n (p m))
      → Puts row Blocker s r t → Records (λ m. blocker_on (p m) ∷ []) s r t
  unfolding record_all
  block_Records t r p sets small puts m h g room =
      puts m (blocker_on (p m)) h g (omega arith) (blocker_Recorded m.given.n z.l row (p m) long (sets m h) (small m g))

  -- a row of the frame
  pub row-Records : (t : List ℕ) (r : Bool) (which : Basis) (q : ℕ)
      → ((v : Rows Pauli) (k : Rows Label) → frames.Held z.n z.l v k (take (z.at - 14) (drop 14 s)) → IsRow z.l row 0 (axis_of which v q))
      → Puts row Blocker s r t → Records (blocker_at which q) s r t
  unfolding blocker_at
  row-Records t r which q row_is puts =
      block_Records t r (λ m. axis_of which m.frame q) (λ m h. row_Sets z.l row (axis_of which m.frame q) (row_is m.frame m.sketch (frames-Held z s f m h)))
      (λ m g. Small-axis m g which q) puts

  -- one of the seven products
  pub product_Records : (v : List ℕ) (r : Bool) (which : Basis) (a b t i : ℕ) → i < 7
      → ((w : Rows Pauli) (k : Rows Label) → frames.Held z.n z.l w k (take (z.at - 14) (drop 14 s))
      → Sets z.l row (get_or (seven (z_at paulis w a) (z_at paulis w b) (axis_of which w t)) i paulis.unit))
      → Puts row Blocker s r v → Records (product_at which a b t i) s r v
  unfolding product_at
  product_Records v r which a b t i hi sets puts =
      block_Records v r (λ m. get_or (seven (z_at paulis m.frame a) (z_at paulis m.frame b) (axis_of which m.frame t)) i paulis.unit)
      (λ m h. sets m.frame m.sketch (frames-Held z s f m h))
      (λ m g. Small-seven m.given.n _ _ _ i hi (g.within.all_z a) (g.within.all_z b) (Small-axis m g which t)) puts

  -- a rotation, by what the code was told of its axis, sign and label
  module _ (kind : Kind) (q tag : ℕ) (b : Bool) (sgn : Option ℤ) (inside : q < z.n)
      (row_is : (v : Rows Pauli) (k : Rows Label) → frames.Held z.n z.l v k (take (z.at - 14) (drop 14 s))
      → (b ≡ true) × IsRow z.l row 0 (axis paulis (kind_of kind) q v))
      (sign_is : (l : ℕ) (p : Pauli) → length row ≡ 2 * l + 1 → IsRow l row 0 p → sgn ≡ answer (sign p)) where
    told_row : (m : State) → Stored m s → (b ≡ true) × IsRow z.l row 0 (axis paulis (kind_of kind) q m.frame)
    told_row m h = row_is m.frame m.sketch (frames-Held z s f m h)

    rotation_ok : (m : State) → Stored m s → Good m → EventOk (origin m) m.given.n (rotation_of (kind_of kind) q tag m)
    rotation_ok m h g = axis_ok m (kind_of kind) q tag g (omega (arith, inside, (own z m s f h).qubits))

    sign_ok : (m : State) → Stored m s → Good m → IsSign (sign (axis paulis (kind_of kind) q m.frame))
    unfolding rotation_of
    sign_ok m h g = (rotation_ok m h g).signed

    told_sign : (m : State) → Stored m s → sgn ≡ answer (sign (axis paulis (kind_of kind) q m.frame))
    told_sign m h = sign_is z.l (axis paulis (kind_of kind) q m.frame) long (told_row m h).1

    pub rotate_Records : (t : List ℕ) (r : Bool) (g h : ℤ) (u : Tag)
        → ((v : Rows Pauli) (k : Rows Label) → frames.Held z.n z.l v k (take (z.at - 14) (drop 14 s)) → tag_of u ≡ axis labels (kind_of kind) q k)
        → sgn ≡ Some g → (IsSign g → h ≡ g) → Puts row (Rotation tag h u.high u.low) s r t → Records (rotation_about kind q tag) s r t
    unfolding rotation_about record_all
    rotate_Records t r g h u Label-is e same puts m held good room =
        let ok : IsSign (sign (axis paulis (kind_of kind) q m.frame)) = sign_ok m held good in
        let eg : g ≡ sign (axis paulis (kind_of kind) q m.frame) = is_sign (sign (axis paulis (kind_of kind) q m.frame)) g ok (sym e ∙ told_sign m held) in
        puts m (rotation_of (kind_of kind) q tag m) held good (omega arith)
        (rotation_Recorded m.given.n z.l q tag row kind m (origin m) h u long (told_row m held).1 (same (subst IsSign (sym eg) ok) ∙ eg)
        (Label-is m.frame m.sketch (frames-Held z s f m held)) (rotation_ok m held good))

    pub unsigned_Records : (t : List ℕ) → sgn ≡ None → Records (rotation_about kind q tag) s false t
    unsigned_Records t e m held good room = absurd (some_sign (sign (axis paulis (kind_of kind) q m.frame)) (sign_ok m held good) (sym e ∙ told_sign m held))

  pub no_axis-Records : (kind : Kind) (q tag : ℕ) (b : Bool) (t : List ℕ) → b ≡ false
      → ((v : Rows Pauli) (k : Rows Label) → frames.Held z.n z.l v k (take (z.at - 14) (drop 14 s))
      → (b ≡ true) × IsRow z.l row 0 (axis paulis (kind_of kind) q v))
      → Records (rotation_about kind q tag) s false t
  no_axis-Records kind q tag b t e row_is m held good room = absurd (true≢false (sym (row_is m.frame m.sketch (frames-Held z s f m held)).0 ∙ e))

-- ---- several records in a row

-- from s to t the first i events of each state are recorded
abbrev pub Sofar : (State → List Event) → (i : ℕ) (s t : List ℕ) → Type 0
Sofar es i s t = (m : State) → Stored m s → Good m → length m.events + length (es m) ≤ m.given.capacity → StoredTo (record_all (take i (es m)) m) s t

pub Sofar-none : (es : State → List Event) (s : List ℕ) → Sofar es 0 s s
unfolding record_all
Sofar-none es s m h g room = record { stored = h; only = record { same_length = refl; kept = λ k u. refl } }

module _ (es one : State → List Event) (i : ℕ) (s t u : List ℕ) (r : Bool)
    (ok : (m : State) → Good m → AllOk (origin m) m.given.n (es m)) (there : (m : State) → i < length (es m))
    (same : (m v : State) → v.frame ≡ m.frame → one v ≡ event_at (es m) i ∷ []) (past : Sofar es i s t) (next : Records one t r u) where
  step : (m : State) → Stored m s → Good m → length m.events + length (es m) ≤ m.given.capacity → (r ≡ true) × StoredTo (record_all (take (i + 1) (es m)) m) s u
  unfolding record_all
  step m h g room =
      let v : State = record_all (take i (es m)) m in
      let e : Event = event_at (es m) i in
      let hi : i < length (es m) = there m in
      let to : StoredTo v s t = past m h g room in
      let is : one v ≡ e ∷ [] = same m v (record_frame (take i (es m)) m) in
      let long : length (take i (es m)) ≡ i = length-take-le i (es m) (omega arith) in
      let given : v.given.capacity ≡ m.given.capacity = ap (λ (o : Opening). o.capacity) (record_given (take i (es m)) m) in
      let good : Good v = Good-some (es m) i m g (ok m g) (omega arith) (omega arith) in
      let w = next v to.stored good (omega (arith, ap length is, record_count (take i (es m)) m, long, given)) in
      let one_to : StoredTo (record1 e v) t u = subst (λ (x : List Event). StoredTo (record_all x v) t u) is w.1 in
      (w.0, subst (λ (x : State). StoredTo x s u) (sym (record_more (es m) i m hi)) (stored_then e v s t u to one_to))

  pub Sofar-more : Sofar es (i + 1) s u
  Sofar-more m h g room = (step m h g room).1

  pub sofar_fail : r ≡ false → Records es s false u
  sofar_fail e m h g room = absurd (true≢false (sym (step m h g room).0 ∙ e))

  pub sofar_last : ((m : State) → i + 1 ≡ length (es m)) → Records es s r u
  sofar_last last m h g room =
      let w = step m h g room in
      (w.0, subst (λ (x : List Event). StoredTo (record_all x m) s u) (take_all (i + 1) (es m) (omega (arith, last m))) w.1)

pub Sofar-all : (es : State → List Event) (i : ℕ) (s t : List ℕ) → ((m : State) → i ≡ length (es m)) → Sofar es i s t → Records es s true t
Sofar-all es i s t all past m h g room =
    (refl, subst (λ (x : List Event). StoredTo (record_all x m) s t) (take_all i (es m) (omega (arith, all m))) (past m h g room))

-- ---- the seven products, one by one

at_seven : (a b t : Pauli) (i : ℕ) → i < 7 → blocker_on (get_or (seven a b t) i paulis.unit) ≡ event_at (map blocker_on (seven a b t)) i
unfolding seven event_at
at_seven a b t zero h = refl
at_seven a b t (suc zero) h = refl
at_seven a b t (suc (suc zero)) h = refl
at_seven a b t (suc (suc (suc zero))) h = refl
at_seven a b t (suc (suc (suc (suc zero)))) h = refl
at_seven a b t (suc (suc (suc (suc (suc zero))))) h = refl
at_seven a b t (suc (suc (suc (suc (suc (suc zero)))))) h = refl
at_seven a b t (suc (suc (suc (suc (suc (suc (suc i))))))) h = absurd (omega arith)

module _ (which : Basis) (a b t : ℕ) where
  products_ok : (m : State) → Good m → AllOk (origin m) m.given.n (products which a b t m)
  unfolding products
  products_ok m g = seven_ok (origin m) m.given.n _ _ _ (g.within.all_z a) (g.within.all_z b) (Small-axis m g which t)

  products_long : (m : State) → length (products which a b t m) ≡ 7
  unfolding products seven
  products_long m = refl

  products_same : (i : ℕ) → i < 7 → (m v : State) → v.frame ≡ m.frame → product_at which a b t i v ≡ event_at (products which a b t m) i ∷ []
  unfolding products product_at
  products_same i h m v e =
      ap (λ (r : Rows Pauli). blocker_on (get_or (seven (z_at paulis r a) (z_at paulis r b) (axis_of which r t)) i paulis.unit) ∷ []) e
      ∙ ap (λ (x : Event). x ∷ []) (at_seven (z_at paulis m.frame a) (z_at paulis m.frame b) (axis_of which m.frame t) i h)

  module _ (i : ℕ) (s u v : List ℕ) (r : Bool) (h : i < 7) (past : Sofar (products which a b t) i s u) (next : Records (product_at which a b t i) u r v) where
    there : (m : State) → i < length (products which a b t m)
    there m = omega (arith, products_long m)

    pub product_next : Sofar (products which a b t) (i + 1) s v
    product_next = Sofar-more (products which a b t) (product_at which a b t i) i s u v r products_ok there (products_same i h) past next

    pub product_fail : r ≡ false → Records (products which a b t) s false v
    product_fail = sofar_fail (products which a b t) (product_at which a b t i) i s u v r products_ok there (products_same i h) past next

  pub product_all : (i : ℕ) (s u : List ℕ) → i ≡ 7 → Sofar (products which a b t) i s u → Records (products which a b t) s true u
  product_all i s u e = Sofar-all (products which a b t) i s u (λ m. e ∙ sym (products_long m))
