-- Reading a variable and settling a parameter keep what stands for a variable where a block begins, and add to the set of recorded values only new parameters
-- of marked variables: a walk copies onto blocks without a definition, and what it copies is a definition already. No invariant is needed. Assumes nothing.
use Prim.Native.Nat.{ℕ, zero, suc, ◌<◌, ◌≤◌}
use mathlib.Core.Path.{◌≡◌, refl, sym, ap, ◌∙◌}
use mathlib.Core.Logic.{◌⊎◌, inl, inr}
use mathlib.Core.Bool.{Bool, true, false, cond}
use mathlib.Core.Option.{Option, none, some}
use mathlib.Core.List.{List, [], ◌∷◌, map, reverse}
use lib.Dec.{eqb}
use lib.ListN.{length, take}
use native.Mathlib.Omega.{arith}
use native.Mathlib.Nat.{le_trans}
use Rattle.entity.specs.Types.{step_of}
use Rattle.definition.specs.Base.{put, put₂, or_else, ◌∷ʳ◌, has, every, without, before}
use Rattle.definition.specs.Form.{Graph, Form, Info, Sort, param, nought, def, with_args}
use Rattle.definition.specs.Read.{Got, resolve, type_of, mark, make, alias, feed_all, new_param, settle_left, single, Walk, stop, on_to, past, walk}
use Rattle.definition.specs.Read.{place_block, log_zero, emit_step, read_all, fill, begin, read_past, read_on, read, depth, set_pending, settle_pending}
use Rattle.definition.specs.Session.{mark_sealed, seal_form, seal_each}
use Rattle.meaning.specs.Path.{In}
use Rattle.meaning.specs.Machine.{Task, look, finish, Conf, open_param, find, visit, turn, turns}
use Rattle.meaning.proofs.Maps.{bind_is, bind_still, bind_at, put_other, put_at, put₂_at, put₂_other, put₂_is, here?, some_none, or_none}
use Rattle.meaning.proofs.Ranges.{mark_is}
use Rattle.meaning.proofs.Inv.{Work}
use Rattle.meaning.proofs.Growing.{grown}

-- x stands for v in b, by the block's own definitions o or at its beginning e
abbrev pub Stands : (o e : ℕ → ℕ → Option ℕ) → ℕ → ℕ → ℕ → Type 0
Stands o e v b x = (o v b ≡ some x) ⊎ (e v b ≡ some x)

pub stands : (s : Form) (v b x : ℕ) → def s v b ≡ some x → Stands s.own s.entry v b x
stands s v b x e = by (s.own v b) e
  where
    by : (o : Option ℕ) → or_else o (s.entry v b) ≡ some x → (o ≡ some x) ⊎ (s.entry v b ≡ some x)
    by (some y) q = inl q
    by none q = inr q

-- what stands for a marked variable is recorded
abbrev pub Bound : (m : ℕ → Bool) (o e : ℕ → ℕ → Option ℕ) (r : ℕ → Bool) → Type 0
Bound m o e r = (v b x : ℕ) → m v ≡ true → Stands o e v b x → r x ≡ true

-- x is a parameter of a marked variable, made since there were n values
abbrev pub New : (m : ℕ → Bool) (n n' : ℕ) (i : ℕ → Info) (e : ℕ → ℕ → Option ℕ) → ℕ → Type 0
New m n n' i e x = (n ≤ x) × (x < n') × ((i x).sort ≡ param) × ((v : ℕ) × (m v ≡ true) × (e v (i x).home ≡ some x))

-- there are n values, and each from k on stands for one variable at most
pub record Alone (k : ℕ) (o e : ℕ → ℕ → Option ℕ) (n : ℕ) : Type 0 where
  pub below : (w b x : ℕ) → Stands o e w b x → x < n
  pub one : (w w' b b' x : ℕ) → k ≤ x → Stands o e w b x → Stands o e w' b' x → w ≡ w'

-- Each part speaks of what it reads, so that a change of other tables is none.
pub record Bindings (m : ℕ → Bool) (o o' e e' : ℕ → ℕ → Option ℕ) (i i' : ℕ → Info) (n n' : ℕ) (r r' : ℕ → Bool) : Type 0 where
  pub entry : (w b x : ℕ) → e w b ≡ some x → e' w b ≡ some x
  pub info : (x : ℕ) → x < n → i' x ≡ i x
  pub more : n ≤ n'
  pub still : (x : ℕ) → r x ≡ true → r' x ≡ true
  pub new : (x : ℕ) → r' x ≡ true → (r x ≡ true) ⊎ New m n n' i' e' x
  pub bound : Bound m o e r → Bound m o' e' r'
  pub alone : (k : ℕ) → Alone k o e n → Alone k o' e' n'

abbrev pub Binds : Graph → Form → Form → Type 0
Binds g s s' = Bindings g.marks s.own s'.own s.entry s'.entry s.info s'.info s.next s'.next s.recorded s'.recorded

module _ (g : Graph) where
  pub binds_refl : (s : Form) → Binds g s s
  binds_refl s = record {
    entry = λ w b x q. q;
    info = λ x l. refl;
    more = omega arith;
    still = λ x q. q;
    new = λ x q. inl q;
    bound = λ h. h;
    alone = λ k h. h;
  }

  pub binds_trans : (s t u : Form) → Binds g s t → Binds g t u → Binds g s u
  binds_trans s t u p q = record {
    entry = λ w b x h. q.entry w b x (p.entry w b x h);
    info = λ x l. q.info x (le_trans l p.more) ∙ p.info x l;
    more = le_trans p.more q.more;
    still = λ x h. q.still x (p.still x h);
    new = λ x h. elim (q.new x h) [
      | inl k ↦ elim (p.new x k) [ inl j ↦ inl j | inr j ↦ inr (on x j) ]
      | inr k ↦ inr (le_trans p.more k.0, k.1, k.2, k.3)
    ];
    bound = λ h. q.bound (p.bound h);
    alone = λ k h. q.alone k (p.alone k h);
  }
    where
      on : (x : ℕ) → New g.marks s.next t.next t.info t.entry x → New g.marks s.next u.next u.info u.entry x
      on x k =
          let i = q.info x k.1 in
          let v = k.3.0 in
          let e = ap (λ (j : Info). u.entry v j.home) i ∙ q.entry v (t.info x).home x k.3.2 in
          (k.0, le_trans k.1 q.more, ap (λ (j : Info). j.sort) i ∙ k.2, (v, k.3.1, e))

-- ---- the small changes

module _ (g : Graph) where
  -- one more value
  pub make_binds : (k : Sort) (ty b : ℕ) (s : Form) → Binds g s (make k ty b s)
  make_binds k ty b s = record {
    entry = λ w c x q. q;
    info = λ x l. put_other s.next (record { sort = k; type = ty; home = b }) s.info x (omega arith);
    more = omega arith;
    still = λ x q. q;
    new = λ x q. inl q;
    bound = λ h. h;
    alone = λ k h. record { below = λ w c x q. le_trans (h.below w c x q) (omega arith); one = h.one };
  }

  step_binds : (o : Option ℕ) (b : ℕ) (s : Form) → Binds g s (emit_step o b s)
  step_binds none b s = binds_refl g s
  step_binds (some ty) b s = make_binds nought ty b s

  pub settle_binds : (b x : ℕ) (rs : List ℕ) (s : Form) (left : List ℕ) → Binds g s (settle_left g b x rs s left).1
  settle_binds b x rs s [] =
      let s₀ = log_zero g.call b (place_block b s) in
      let s₁ = emit_step (step_of (s.info x).type) b s₀ in
      binds_trans g s s₁ (make nought (s.info x).type b s₁) (step_binds (step_of (s.info x).type) b s₀) (make_binds _ (s.info x).type b s₁)
  settle_binds b x rs s (y ∷ ys) = by (every (eqb y) ys)
    where
      by : (z : Bool) → Binds g s (cond {A = Got} z (y, alias b x y s) (x, with_args s (feed_all g b (g.preds b) rs s.args))).1
      by true = binds_refl g s
      by false = binds_refl g s

  -- a new parameter for v, which has nothing in c
  pub param_binds : (v c : ℕ) (s : Form) → s.entry v c ≡ none → Binds g s (new_param g v c s)
  param_binds v c s blank = record {
    entry = λ w b x q. elim (here? w v b c) [
      | inl k ↦ absurd (some_none (rw (k.0, k.1) at q) blank)
      | inr n ↦ put₂_other v c (some s.next) s.entry w b n ∙ q
    ];
    info = λ x l. put_other s.next made s.info x (omega arith);
    more = omega arith;
    still = bind_still (g.marks v) s.next s.recorded;
    new = λ x q. elim (bind_is (g.marks v) s.next s.recorded x q) [ inl k ↦ inl k | inr k ↦ inr (fresh x k.1 k.0) ];
    bound = λ h w b x k q. elim (was w b x q) [
      | inl j ↦ rw j.1 (bind_at (g.marks v) s.next s.recorded (rw j.0 at k))
      | inr j ↦ bind_still (g.marks v) s.next s.recorded x (h w b x k j)
    ];
    alone = λ k h. record {
      below = λ w b x q. elim (was w b x q) [ inl j ↦ omega (arith, j.1) | inr j ↦ le_trans (h.below w b x j) (omega arith) ];
      one = λ w u b d x l p q. elim (was w b x p) [
        | inl i ↦ elim (was u d x q) [ inl j ↦ i.0 ∙ sym j.0 | inr j ↦ absurd (omega (arith, i.1, h.below u d x j)) ]
        | inr i ↦ elim (was u d x q) [ inl j ↦ absurd (omega (arith, j.1, h.below w b x i)) | inr j ↦ h.one w u b d x l i j ]
      ];
    };
  }
    where
      made : Info
      made = record { sort = param; type = type_of g v; home = c }

      -- it is the parameter, or stood before
      was : (w b x : ℕ) → Stands s.own (put₂ v c (some s.next) s.entry) w b x → ((w ≡ v) × (x ≡ s.next)) ⊎ Stands s.own s.entry w b x
      was w b x (inl o) = inr (inl o)
      was w b x (inr e) = elim (put₂_is v c s.next s.entry w b x e) [ inl j ↦ inl (j.0, j.2) | inr j ↦ inr (inr j) ]

      fresh : (x : ℕ) → x ≡ s.next → g.marks v ≡ true
          → New g.marks s.next (suc s.next) (put s.next made s.info) (put₂ v c (some s.next) s.entry) x
      fresh x e m =
          let i = put_at s.next made s.info x e in
          let there = put₂_at v c (some s.next) s.entry v (put s.next made s.info x).home refl (ap (λ (j : Info). j.home) i) in
          (omega arith, omega arith, ap (λ (j : Info). j.sort) i, (v, m, there ∙ ap {B = Option ℕ} some (sym e)))

  -- x, which stands for v in c, is copied onto these blocks, which have nothing else of v
  module _ (v x c : ℕ) (s : Form) (at_c : Stands s.own s.entry v c x) where
    mark_entry : (bs : List ℕ) → ((b : ℕ) → In b bs → (e : ℕ) → s.entry v b ≡ some e → e ≡ x)
        → (w b e : ℕ) → s.entry w b ≡ some e → (mark v x bs s).entry w b ≡ some e
    mark_entry [] fits w b e q = q
    mark_entry (d ∷ bs) fits w b e q = elim (here? w v b d) [
      | inl k ↦ put₂_at v d (some x) (mark v x bs s).entry w b k.0 k.1 ∙ ap {B = Option ℕ} some (sym (fits d (inl refl) e (rw (k.0, k.1) at q)))
      | inr n ↦ put₂_other v d (some x) (mark v x bs s).entry w b n ∙ mark_entry bs (λ j i. fits j (inr i)) w b e q
    ]

    -- what stands for a variable then stood for it before
    was : (bs : List ℕ) (w b y : ℕ) → Stands s.own (mark v x bs s).entry w b y → (d : ℕ) × Stands s.own s.entry w d y
    was [] w b y q = (b, q)
    was (d ∷ bs) w b y (inl o) = (b, inl o)
    was (d ∷ bs) w b y (inr e) = elim (put₂_is v d x (mark v x bs s).entry w b y e) [
      | inl k ↦ (c, rw (k.0, k.2) at_c)
      | inr k ↦ was bs w b y (inr k)
    ]

    pub mark_binds : (bs : List ℕ) → ((b : ℕ) → In b bs → (e : ℕ) → s.entry v b ≡ some e → e ≡ x) → Binds g s (mark v x bs s)
    mark_binds bs fits = rw (mark_is v x bs s) (record {
      entry = mark_entry bs fits;
      info = λ y l. refl;
      more = omega arith;
      still = λ y q. q;
      new = λ y q. inl q;
      bound = λ h w b y k q. let j = was bs w b y q in h w j.0 y k j.1;
      alone = λ k h. record {
        below = λ w b y q. let j = was bs w b y q in h.below w j.0 y j.1;
        one = λ w u b d y l p q. let i = was bs w b y p in let j = was bs u d y q in h.one w u i.0 j.0 y l i.1 j.1;
      };
    })

-- ---- the walk

before_in : (c : ℕ) (l : List ℕ) (b : ℕ) → In b (before c l) → In b l
before_in c [] b i = elim i [ ]
before_in c (a ∷ l) b i = by (eqb a c) (before_in c l b) i
  where
    by : (z : Bool) → (In b (before c l) → In b l) → In b (cond {A = List ℕ} z [] (a ∷ before c l)) → In b (a ∷ l)
    by true below i = absurd i
    by false below (inl k) = inl k
    by false below (inr j) = inr (below j)

-- it passes blocks without a definition of v
pub record Passes (s : Form) (v : ℕ) (w : Walk) : Type 0 where
  pub blank : (c : ℕ) → In c w.passed → def s v c ≡ none
  pub met : (x : ℕ) → w.met ≡ some x → def s v w.end ≡ some x
  pub unmet : w.met ≡ none → def s v w.end ≡ none

module _ (g : Graph) (s : Form) (v : ℕ) where
  passes : (n : ℕ) (seen : List ℕ) (b : ℕ) → def s v b ≡ none → Passes s v (walk n g s v seen b)
  passes zero seen b e = record { blank = λ c i. absurd i; met = λ x q. absurd (some_none q refl); unmet = λ q. e }
  passes (suc n) seen b e = at (has b seen) (single g b) (passes n (b ∷ seen))
    where
      halt : Passes s v (stop b)
      halt = record { blank = λ c i. absurd i; met = λ x q. absurd (some_none q refl); unmet = λ q. e }

      at : (z : Bool) (q : Option ℕ) → ((p : ℕ) → def s v p ≡ none → Passes s v (walk n g s v (b ∷ seen) p))
          → Passes s v (past (walk n g s v (b ∷ seen)) s v b z q)
      at true q below = halt
      at false none below = halt
      at false (some p) below = to (def s v p) refl
        where
          to : (d : Option ℕ) → def s v p ≡ d → Passes s v (on_to (walk n g s v (b ∷ seen)) b p d)
          to (some x) q = record {
            blank = λ c i. elim i [ inl k ↦ rw k e | inr j ↦ absurd j ];
            met = λ y k. q ∙ k;
            unmet = λ k. absurd (some_none refl k);
          }
          to none q = let w = below p q in record { blank = λ c i. elim i [ inl k ↦ rw k e | inr j ↦ w.blank c j ]; met = w.met; unmet = w.unmet }

  -- after a walk over the blocks `over`
  module _ (over : List ℕ) (blank : (c : ℕ) → In c over → def s v c ≡ none) where
    bare : (c : ℕ) → def s v c ≡ none → s.entry v c ≡ none
    bare c q = (or_none (s.own v c) (s.entry v c) q).1

    -- to c, where it met x
    met_binds : (c x : ℕ) → def s v c ≡ some x → Binds g s (mark v x over s)
    met_binds c x e = mark_binds g v x c s (stands s v c x e) over (λ b i y q. absurd (some_none q (bare b (blank b i))))

    -- to c, where it met nothing: the parameter stands in c, and is copied onto the blocks before; ws waits
    opened_binds : (c : ℕ) → def s v c ≡ none → (ws : Work) → Binds g s (mark v s.next (before c over) (grown g s v c ws))
    opened_binds c e ws = binds_trans g s s₁ (mark v x (before c over) s₁) (param_binds g v c s (bare c e))
        (mark_binds g v x c s₁ (inr (put₂_at v c (some x) s.entry v c refl refl)) (before c over) fits)
      where
        x : ℕ
        x = s.next

        s₁ : Form
        s₁ = grown g s v c ws

        fits : (b : ℕ) → In b (before c over) → (y : ℕ) → put₂ v c (some s.next) s.entry v b ≡ some y → y ≡ s.next
        fits b i y q = elim (put₂_is v c x s.entry v b y q) [
          | inl k ↦ k.2
          | inr k ↦ absurd (some_none k (bare b (blank b (before_in c over b i))))
        ]

  -- what is done after a walk over the blocks `over` to c, whatever waits
  abbrev Found : List ℕ → ℕ → Option ℕ → Type 0
  Found over c (some x) = Binds g s (mark v x over s)
  Found over c none = (ws : Work) → Binds g s (mark v s.next (before c over) (grown g s v c ws))

  pub found : (b : ℕ) → def s v b ≡ none → let w = walk (suc g.blocks) g s v [] b in Found w.passed w.end w.met
  found b e = let w = walk (suc g.blocks) g s v [] b in to w.passed w.end w.met (passes (suc g.blocks) [] b e)
    where
      to : (over : List ℕ) (c : ℕ) (m : Option ℕ) → Passes s v (record { passed = over; end = c; met = m }) → Found over c m
      to over c (some x) w = met_binds over w.blank c x (w.met x refl)
      to over c none w = opened_binds over w.blank c (w.unmet refl)

-- ---- the recursion

module _ (g : Graph) where
  abbrev ReadsSo : (ℕ → Form → Got) → Type 0
  ReadsSo rec = (b : ℕ) (s : Form) → Binds g s (rec b s).1

  all_binds : (rec : ℕ → Form → Got) → ReadsSo rec → (ps : List ℕ) (s : Form) → Binds g s (read_all rec ps s).1
  all_binds rec R [] s = binds_refl g s
  all_binds rec R (p ∷ ps) s = let s' = (rec p s).1 in binds_trans g s s' (read_all rec ps s').1 (R p s) (all_binds rec R ps s')

  fill_binds : (rec : ℕ → Form → Got) → ReadsSo rec → (b x : ℕ) (s : Form) → Binds g s (fill rec g b x s).1
  fill_binds rec R b x s =
      let q = read_all rec (g.preds b) s in
      binds_trans g s q.1 (fill rec g b x s).1 (all_binds rec R (g.preds b) s)
      (settle_binds g b x q.0 q.1 (without x (map (resolve q.1) q.0)))

  pub read_binds : (v n : ℕ) → ReadsSo (read n g v)
  read_binds v zero b s = binds_refl g s
  read_binds v (suc n) b s = on (read_binds v n) (def s v b) refl
    where
      on : ReadsSo (read n g v) → (d : Option ℕ) → def s v b ≡ d → Binds g s (read_on (read n g v) g v b s d).1
      on R (some x) e = binds_refl g s
      on R none e = let w = walk (suc g.blocks) g s v [] b in to w.passed w.end w.met (found g s v b e)
        where
          to : (over : List ℕ) (c : ℕ) (m : Option ℕ) → Found g s v over c m → Binds g s (read_past (read n g v) g v s over c m).1
          to over c (some x) f = f
          to over c none f = by (g.sealed c)
            where
              x : ℕ
              x = s.next

              by : (z : Bool) → Binds g s (begin (read n g v) g v c s.next (before c over) (new_param g v c s) z).1
              by true =
                  let s₁ = mark v x (before c over) (new_param g v c s) in
                  binds_trans g s s₁ (fill (read n g v) g c x s₁).1 (f s.pending) (fill_binds (read n g v) R c x s₁)
              by false = f (put c (s.pending c ∷ʳ (v, x)) s.pending)

  pub settled_binds : (b : ℕ) (ws : List (ℕ × ℕ)) (s : Form) → Binds g s (settle_pending g b ws s)
  settled_binds b [] s = binds_refl g s
  settled_binds b (w ∷ ws) s =
      let s' = (fill (read (depth g) g w.0) g b w.1 s).1 in
      binds_trans g s s' (settle_pending g b ws s') (fill_binds (read (depth g) g w.0) (read_binds w.0 (depth g)) b w.1 s) (settled_binds b ws s')

pub seal_binds : (g : Graph) (s : Form) (b : ℕ) → Binds g s (seal_form g s b)
seal_binds g s b = settled_binds (mark_sealed g b) b (s.pending b) (set_pending b [] s)

-- sealing several marks no variable
pub each_binds : (bs : List ℕ) (g : Graph) (s : Form) → ((v : ℕ) → (seal_each bs g s).0.marks v ≡ g.marks v) × Binds g s (seal_each bs g s).1
each_binds [] g s = (λ v. refl, binds_refl g s)
each_binds (b ∷ bs) g s = by (g.sealed b) (each_binds bs g s) (each_binds bs (mark_sealed g b) (seal_form g s b))
  where
    by : (z : Bool) → ((v : ℕ) → (seal_each bs g s).0.marks v ≡ g.marks v) × Binds g s (seal_each bs g s).1
        → ((v : ℕ) → (seal_each bs (mark_sealed g b) (seal_form g s b)).0.marks v ≡ g.marks v)
        × Binds g (seal_form g s b) (seal_each bs (mark_sealed g b) (seal_form g s b)).1
        → let r = elim z as (λ _. Graph × Form) [ true ↦ seal_each bs g s | false ↦ seal_each bs (mark_sealed g b) (seal_form g s b) ] in
        ((v : ℕ) → r.0.marks v ≡ g.marks v) × Binds g s r.1
    by true on off = on
    by false on off = (off.0, binds_trans g s (seal_form g s b) (seal_each bs (mark_sealed g b) (seal_form g s b)).1 (seal_binds g s b) off.1)

-- ---- the machine

module _ (g : Graph) (v : ℕ) where
  pub visit_binds : (b : ℕ) (ts : List Task) (rs : List ℕ) (s : Form) → Binds g s (visit g v b ts rs s (def s v b)).form
  visit_binds b ts rs s = on (def s v b) refl
    where
      on : (d : Option ℕ) → def s v b ≡ d → Binds g s (visit g v b ts rs s d).form
      on (some x) e = binds_refl g s
      on none e = let w = walk (suc g.blocks) g s v [] b in to w.passed w.end w.met (found g s v b e)
        where
          to : (over : List ℕ) (c : ℕ) (m : Option ℕ) → Found g s v over c m → Binds g s (find g v ts rs s over c m).form
          to over c (some x) f = f
          to over c none f = by (g.sealed c)
            where
              by : (z : Bool) → Binds g s (open_param g v c s.next (before c over) ts rs (new_param g v c s) z).form
              by true = f s.pending
              by false = f (put c (s.pending c ∷ʳ (v, s.next)) s.pending)

  turn_binds : (ts : List Task) (rs : List ℕ) (s : Form) → Binds g s (turn g v ts rs s).form
  turn_binds [] rs s = binds_refl g s
  turn_binds (look p ∷ ts) rs s = visit_binds p ts rs s
  turn_binds (finish x b ∷ ts) rs s =
      let q = reverse (take (length (g.preds b)) rs) in settle_binds g b x q s (without x (map (resolve s) q))

  pub turns_bind : (n : ℕ) (c : Conf) → Binds g c.form (turns n g v c).form
  turns_bind zero c = binds_refl g c.form
  turns_bind (suc n) c =
      let d = turn g v c.tasks c.results c.form in
      binds_trans g c.form d.form (turns n g v d).form (turn_binds c.tasks c.results c.form) (turns_bind n d)
