-- Exactly what a marked variable was given, or had appended as its parameter, is in the set: a definition and a new parameter are all that records a value,
-- and a variable is marked before anything stands for it. Assumes nothing.
use Prim.Native.Nat.{ℕ, zero, suc, ◌<◌, ◌≤◌}
use mathlib.Core.Path.{◌≡◌, refl, sym, ap, ◌∙◌, subst}
use mathlib.Core.Logic.{◌⊎◌, inl, inr}
use mathlib.Core.Bool.{Bool, true, false, cond, not, ◌&&◌, ◌||◌}
use mathlib.Core.Option.{Option, none, some}
use mathlib.Core.List.{List, [], ◌∷◌, ◌++◌, append_assoc, append-nil}
use lib.Dec.{eqb, ltb, leb}
use lib.ListN.{length, get_or}
use native.Mathlib.Omega.{arith}
use Rattle.entity.specs.Types.{type_count}
use Rattle.entity.specs.Limits.{limits}
use Rattle.definition.specs.Base.{put, is_some, ◌∷ʳ◌, has, any, up_from}
use Rattle.definition.specs.Form.{Graph, Form, Info, made, caller, def, with_blocks}
use Rattle.definition.specs.Read.{type_of, place_block, depth, set_pending, settle_pending}
use Rattle.definition.specs.Session.{Call, Done, State, Reply, no, ok, refuse◌when◌else◌, declared_anywhere, no_block, no_var, no_value, no_branch, define}
use Rattle.definition.specs.Session.{define_answer, mark_sealed, seal_each, answered, mark_var, reply, tick, after, empty, session}
use Rattle.meaning.specs.Path.{In, Act, makes, gives, uses, if_so, act, acts}
use Rattle.meaning.specs.Machine.{conf, schedule, visit, turns}
use Rattle.meaning.specs.Marks.{GivenTo, Appended, Receives, RecordedExactly, ZerosGiven, CopiesNotAdded, DefsRecorded, DefsRecordedInTurn}
use Rattle.meaning.proofs.Maps.{bind_is, bind_still, bind_at, same?, eqb_same, eqb_eq, eqb_diff, false_true, and_both, put_at, put_other, put₂_is, some_none}
use Rattle.meaning.proofs.Lists.{in_left, in_right, in_cases, in_one}
use Rattle.meaning.proofs.Facts.{cur}
use Rattle.meaning.proofs.Lacking.{Has, or_has}
use Rattle.meaning.proofs.Inv.{nought_param}
use Rattle.meaning.proofs.Whole.{Fine, fine, acts_snoc, some_no, up_in}
use Rattle.meaning.proofs.Sure.{Sure, sure, from_then}
use Rattle.meaning.proofs.Answers.{run_last}
use Rattle.meaning.proofs.Binding.{Stands, stands, Bound, New, Alone, Binds, binds_refl, make_binds, read_binds}
use Rattle.meaning.proofs.Binding.{seal_binds, each_binds, settled_binds, visit_binds, turns_bind}

-- what a marked variable was given is in the set, and what stands for it
pub record Well (t : State) : Type 0 where
  pub bound : Bound t.graph.marks t.form.own t.form.entry t.form.recorded
  pub heard : (v b x : ℕ) → t.graph.marks v ≡ true → In (gives v x) (acts b t.done) → t.form.recorded x ≡ true

-- a variable that was given something has a last definition
cur_has : (v : ℕ) (l : List Act) (f : ℕ → Option ℕ) → Has (f v) → Has (cur f l v)
cur_has v [] f h = h
cur_has v (makes x ∷ l) f h = cur_has v l f h
cur_has v (uses w x ∷ l) f h = cur_has v l f h
cur_has v (gives w x ∷ l) f h = cur_has v l (put w (some x) f) (elim (same? v w) [
  | inl q ↦ (x, put_at w (some x) f v q)
  | inr n ↦ (h.0, put_other w (some x) f v n ∙ h.1)
])

cur_gave : (v x : ℕ) (l : List Act) (f : ℕ → Option ℕ) → In (gives v x) l → Has (cur f l v)
cur_gave v x [] f x'' = elim x'' [ ]
cur_gave v x (makes y ∷ l) f (inl q) = absurd (let z : ◌≡◌ {A = ℕ} 0 1 = cc in omega arith)
cur_gave v x (makes y ∷ l) f (inr i) = cur_gave v x l f i
cur_gave v x (uses w y ∷ l) f (inl q) = absurd (let z : ◌≡◌ {A = ℕ} 0 1 = cc in omega arith)
cur_gave v x (uses w y ∷ l) f (inr i) = cur_gave v x l f i
cur_gave v x (gives w y ∷ l) f (inl q) = let e : v ≡ w = cc in cur_has v l (put w (some y) f) (y, put_at w (some y) f v e)
cur_gave v x (gives w y ∷ l) f (inr i) = cur_gave v x l (put w (some y) f) i

-- only an accepted definition gives
gives_only : (b : ℕ) (d : Done) (v x : ℕ) → In (gives v x) (act b d) → eqb d.code 0 && (eqb d.asked.kind 4 || eqb d.asked.kind 5) ≡ true
gives_only b d v x i = elim (in_cases (gives v x) (made? ++ given?) used? i) [
  | inl j ↦ elim (in_cases (gives v x) made? given? j) [
    | inl k ↦ absurd (no_make (yes? && eqb d.asked.kind 3 && eqb d.asked.x b) k)
    | inr k ↦ yes (yes? && (eqb d.asked.kind 4 || eqb d.asked.kind 5)) (eqb d.asked.z b) k
  ]
  | inr j ↦ absurd (no_use (yes? && eqb d.asked.kind 6 && eqb d.asked.y b) j)
]
  where
    yes? : Bool
    yes? = eqb d.code 0

    made? : List Act
    made? = if_so (eqb d.code 0 && eqb d.asked.kind 3 && eqb d.asked.x b) (makes d.number)

    given? : List Act
    given? = if_so (eqb d.code 0 && (eqb d.asked.kind 4 || eqb d.asked.kind 5) && eqb d.asked.z b) (gives d.asked.x d.number)

    used? : List Act
    used? = if_so (eqb d.code 0 && eqb d.asked.kind 6 && eqb d.asked.y b) (uses d.asked.x d.number)

    no_make : (z : Bool) → In (gives v x) (if_so z (makes d.number)) → ⊥
    no_make true k = let q = in_one (gives v x) (makes d.number) k in let u : ◌≡◌ {A = ℕ} 0 1 = cc in omega arith
    no_make false k = k

    no_use : (z : Bool) → In (gives v x) (if_so z (uses d.asked.x d.number)) → ⊥
    no_use true k = let q = in_one (gives v x) (uses d.asked.x d.number) k in let u : ◌≡◌ {A = ℕ} 0 1 = cc in omega arith
    no_use false k = k

    yes : (a z : Bool) → In (gives v x) (if_so (a && z) (gives d.asked.x d.number)) → a ≡ true
    yes true z k = refl
    yes false z k = absurd k

-- ---- one call

-- from t to u, where d is the new answer
pub record Moved (t u : State) (d : Done) : Type 0 where
  pub marks : (v : ℕ) → t.graph.marks v ≡ true → u.graph.marks v ≡ true
  pub entry : (w b x : ℕ) → t.form.entry w b ≡ some x → u.form.entry w b ≡ some x
  pub still : (x : ℕ) → t.form.recorded x ≡ true → u.form.recorded x ≡ true
  -- what is new in the set is a new parameter of a marked variable, or given to one by this call
  pub new : (x : ℕ) → u.form.recorded x ≡ true
      → (t.form.recorded x ≡ true) ⊎ (New t.graph.marks t.form.next u.form.next u.form.info u.form.entry x
      ⊎ ((v b : ℕ) × (t.graph.marks v ≡ true) × In (gives v x) (act b d)))
  -- a new value stands for one variable at most where blocks begin
  pub one : (w w' b b' x : ℕ) → t.form.next ≤ x → u.form.entry w b ≡ some x → u.form.entry w' b' ≡ some x → w ≡ w'
  pub well : Well t → Well u

module _ (t : State) (h : Sure t) (c : Call) where
  abbrev g : Graph
  g = t.graph

  abbrev s : Form
  s = t.form

  abbrev said : ℕ → ℕ → Done
  said k n = record { asked = c; code = k; number = n }

  -- what stands in a block names a block and a value
  there : (v b x : ℕ) → Stands s.own s.entry v b x → (b < g.blocks) × (x < s.next)
  there v b x (inl q) = let k = h.safe.ranged.recorded.owns v b x q in (k.1, k.2)
  there v b x (inr q) = ((h.whole.inv.known v b x q).1, h.safe.ranged.recorded.entries v b x q)

  alone : Alone s.next s.own s.entry s.next
  alone = record { below = λ w b x q. (there w b x q).1; one = λ w u b d x l p q. absurd (omega (arith, l, (there w b x p).1)) }

  abbrev Then : ℕ → ℕ → Graph → Form → Type 0
  Then k n g' s' = Moved t (record { graph = tick g'; form = s'; done = t.done ∷ʳ said k n }) (said k n)

  -- it gives nothing
  abbrev Mute : ℕ → ℕ → Type 0
  Mute k n = (b v x : ℕ) → In (gives v x) (act b (said k n)) → ⊥

  mute : (k n : ℕ) → c.kind ≡ k → eqb k 4 || eqb k 5 ≡ false → Mute 0 n
  mute k n e z b v x i = false_true z (rw e at (gives_only b (said 0 n) v x i))

  -- so what was given was given before
  gave : (k n : ℕ) → Mute k n → (b v x : ℕ) → In (gives v x) (acts b (t.done ∷ʳ said k n)) → In (gives v x) (acts b t.done)
  gave k n q b v x i = elim (in_cases (gives v x) (acts b t.done) (act b (said k n)) (rw (acts_snoc b t.done (said k n)) at i)) [
    | inl j ↦ j
    | inr j ↦ absurd (q b v x j)
  ]

  -- it gives nothing and marks nothing
  binding : (k n : ℕ) → Mute k n → (g' : Graph) (s' : Form) → ((v : ℕ) → g'.marks v ≡ g.marks v) → Binds g s s' → Then k n g' s'
  binding k n quiet g' s' same B = record {
    marks = λ v e. same v ∙ e;
    entry = B.entry;
    still = B.still;
    new = λ x q. elim (B.new x q) [ inl i ↦ inl i | inr i ↦ inr (inl i) ];
    one = λ w u b d x l p q. (B.alone s.next alone).one w u b d x l (inr p) (inr q);
    well = λ W. record {
      bound = λ v b x e. B.bound W.bound v b x (sym (same v) ∙ e);
      heard = λ v b x e i. B.still x (W.heard v b x (sym (same v) ∙ e) (gave k n quiet b v x i));
    };
  }

  abbrev Moves : Reply → Type 0
  Moves (no k) = Unit {0}
  Moves (ok n g' s') = Then 0 n g' s'

  check : (k : ℕ) (b : Bool) (r : Reply) → (b ≡ false → Moves r) → Moves (refuse◌when◌else◌ k b r)
  check k true r f = tt
  check k false r f = f refl

  choose : (b : Bool) (r q : Reply) → Moves r → Moves q → Moves (cond b r q)
  choose true r q f u = f
  choose false r q f u = u

  -- a definition
  given_moves : (v x b : ℕ) → ((n d : ℕ) → act d (said 0 n) ≡ if_so (eqb b d) (gives v n)) → Moves (define g s v x b)
  given_moves v x b is =
      check 6 (no_var g s v || no_value g s x || no_block g s b) _ λ _. check 7 (not (eqb (s.info x).type (type_of g v))) _ λ _.
      check 20 (g.declared b) _ λ _.
      record {
        marks = λ w e. e;
        entry = λ w d y q. q;
        still = bind_still (g.marks v) x s.recorded;
        new = λ y q. elim (bind_is (g.marks v) x s.recorded y q) [
          | inl i ↦ inl i
          | inr i ↦ inr (inr (v, b, i.0, rw (i.1, is x b, eqb_same b) (inl refl)))
        ];
        one = λ w u d e y l p q. absurd (omega (arith, l, (there w d y (inr p)).1));
        well = λ W. record {
          bound = λ w d y k q. elim q [
            | inl o ↦ elim (put₂_is v b x s.own w d y o) [
              | inl i ↦ rw i.2 (bind_at (g.marks v) x s.recorded (rw i.0 at k))
              | inr i ↦ bind_still (g.marks v) x s.recorded y (W.bound w d y k (inl i))
            ]
            | inr e ↦ bind_still (g.marks v) x s.recorded y (W.bound w d y k (inr e))
          ];
          heard = λ w d y k i. elim (in_cases (gives w y) (acts d t.done) (act d (said 0 x)) (rw (acts_snoc d t.done (said 0 x)) at i)) [
            | inl j ↦ bind_still (g.marks v) x s.recorded y (W.heard w d y k j)
            | inr j ↦ let e = this (eqb b d) w y (rw (is x d) at j) in rw e.1 (bind_at (g.marks v) x s.recorded (rw e.0 at k))
          ];
        };
      }
    where
      this : (z : Bool) (w y : ℕ) → In (gives w y) (if_so z (gives v x)) → (w ≡ v) × (y ≡ x)
      this true w y i = let q = in_one (gives w y) (gives v x) i in (cc, cc)
      this false w y i = absurd i

  answer_moves : (v b : ℕ) (o : Option ℕ) → ((n d : ℕ) → act d (said 0 n) ≡ if_so (eqb b d) (gives v n)) → Moves (define_answer g s v b o)
  answer_moves v b none is = tt
  answer_moves v b (some x) is = given_moves v x b is

  -- a mark: nothing stands for the variable yet
  mark_moves : (v : ℕ) → Mute 0 v → Moves (mark_var g s v)
  mark_moves v quiet = check 6 (no_var g s v) _ λ _. check 19 (any (λ b. is_some (def s v b)) (up_from 0 g.blocks)) _ λ e.
      record {
        marks = λ w k. elim (same? w v) [ inl q ↦ put_at v true g.marks w q | inr n ↦ put_other v true g.marks w n ∙ k ];
        entry = λ w b x q. q;
        still = λ x q. q;
        new = λ x q. inl q;
        one = λ w u d i y l p q. absurd (omega (arith, l, (there w d y (inr p)).1));
        well = λ W. record {
          bound = λ w b x k q. elim (same? w v) [
            | inl i ↦ absurd (nothing_stands e b x (rw i at q))
            | inr n ↦ W.bound w b x (sym (put_other v true g.marks w n) ∙ k) q
          ];
          heard = λ w b x k i.
              let j = gave 0 v quiet b w x i in
              elim (same? w v) [
                | inl q ↦ absurd (let o = cur_gave w x (acts b t.done) (λ u. none) j in
                    nothing_stands e b o.0 (inl (ap (λ (u : ℕ). s.own u b) (sym q) ∙ h.whole.own b w ∙ o.1)))
                | inr n ↦ W.heard w b x (sym (put_other v true g.marks w n) ∙ k) j
              ];
        };
      }
    where
      has_some : (o : Option ℕ) → is_some o ≡ false → Has o → ⊥
      has_some none e k = some_none k.1 refl
      has_some (some y) e k = false_true e refl

      defined : (b x : ℕ) → Stands s.own s.entry v b x → Has (def s v b)
      defined b x (inl q) = (x, rw q refl)
      defined b x (inr q) = or_has (s.own v b) x q

      nothing_stands : any (λ b. is_some (def s v b)) (up_from 0 g.blocks) ≡ false → (b x : ℕ) → Stands s.own s.entry v b x → ⊥
      nothing_stands e b x q =
          let i = up_in g.blocks 0 b (omega arith) (omega (arith, (there v b x q).0)) in
          has_some (def s v b) (some_no (λ d. is_some (def s v d)) (up_from 0 g.blocks) e b i) (defined b x q)

  -- of a kind that neither defines nor marks
  plain : (k : ℕ) → c.kind ≡ k → eqb k 4 || eqb k 5 ≡ false → (n : ℕ) (g' : Graph) (s' : Form) → ((v : ℕ) → g'.marks v ≡ g.marks v)
      → Binds g s s' → Then 0 n g' s'
  plain k e z n = binding 0 n (mute k n e z)

  -- the kinds
  moves : (k : ℕ) → c.kind ≡ k → Moves (reply g s t.done c.x c.y c.z k)
  moves zero e = tt
  moves (suc zero) e = check 4 (leb limits.blocks c.x) _ λ _. check 5 (ltb g.blocks c.x) _ λ _.
      choose (ltb c.x g.blocks) _ _ (plain 1 e refl _ _ _ (λ v. refl) (binds_refl g s)) (by (eqb c.x 0))
    where
      by : (z : Bool) → Then 0 c.x (with_blocks g (suc c.x)) (cond z (place_block 0 s) s)
      by true = plain 1 e refl _ _ _ (λ v. refl) (binds_refl g s)
      by false = plain 1 e refl _ _ _ (λ v. refl) (binds_refl g s)
  moves (suc (suc zero)) e =
      check 4 (leb limits.variables c.x) _ λ _. check 5 (ltb (length g.types) c.x) _ λ _. check 6 (leb type_count c.y) _ λ _.
      check 7 (ltb c.x (length g.types) && not (eqb c.y (type_of g c.x))) _ λ _.
      choose (ltb c.x (length g.types)) _ _ (plain 2 e refl _ _ _ (λ v. refl) (binds_refl g s)) (plain 2 e refl _ _ _ (λ v. refl) (binds_refl g s))
  moves (suc (suc (suc zero))) e =
      check 6 (no_block g s c.x || leb type_count c.y) _ λ _. check 9 (g.branch c.x) _ λ _. check 4 (leb limits.made s.makes) _ λ _.
      plain 3 e refl _ _ _ (λ v. refl) (make_binds g made c.y c.x s)
  moves (suc (suc (suc (suc zero)))) e = given_moves c.x c.y c.z (λ n b. rw e (append-nil (if_so (eqb c.z b) (gives c.x n))))
  moves (suc (suc (suc (suc (suc zero))))) e =
      answer_moves c.x c.z (answered t.done c.y) (λ n b. rw e (append-nil (if_so (eqb c.z b) (gives c.x n))))
  moves (suc (suc (suc (suc (suc (suc zero)))))) e = check 6 (no_var g s c.x || no_block g s c.y) _ λ _.
      plain 6 e refl _ _ _ (λ v. refl) (read_binds g c.x (depth g) c.y s)
  moves (suc (suc (suc (suc (suc (suc (suc zero))))))) e = check 6 (no_block g s c.x) _ λ _. check 9 (g.branch c.x) _ λ _.
      plain 7 e refl _ _ _ (λ v. refl) (binds_refl g s)
  moves (suc (suc (suc (suc (suc (suc (suc (suc zero)))))))) e =
      check 6 (no_branch g s c.x || no_block g s c.y) _ λ _. check 11 (declared_anywhere g c.x) _ λ _.
      check 10 (leb limits.dests (length (g.dests c.x))) _ λ _. plain 8 e refl _ _ _ (λ v. refl) (binds_refl g s)
  moves (suc (suc (suc (suc (suc (suc (suc (suc (suc zero))))))))) e =
      check 6 (no_block g s c.x || no_branch g s c.y) _ λ _. check 8 (g.sealed c.x) _ λ _. check 13 (not (has c.x (g.dests c.y))) _ λ _.
      check 12 (has c.y (g.preds c.x)) _ λ _. plain 9 e refl _ _ _ (λ v. refl) (binds_refl g s)
  moves (suc (suc (suc (suc (suc (suc (suc (suc (suc (suc zero)))))))))) e =
      check 6 (no_block g s c.x || no_branch g s c.y) _ λ _. check 8 (g.sealed c.x) _ λ _. check 13 (not (has c.y (g.preds c.x))) _ λ _.
      plain 10 e refl _ _ _ (λ v. refl) (binds_refl g s)
  moves (suc (suc (suc (suc (suc (suc (suc (suc (suc (suc (suc zero))))))))))) e = check 6 (no_block g s c.x) _ λ _. check 8 (g.sealed c.x) _ λ _.
      plain 11 e refl _ _ _ (λ v. refl) (seal_binds g s c.x)
  moves (suc (suc (suc (suc (suc (suc (suc (suc (suc (suc (suc (suc zero)))))))))))) e =
      let r = each_binds (up_from 0 g.blocks) g s in plain 12 e refl _ _ _ r.0 r.1
  moves (suc (suc (suc (suc (suc (suc (suc (suc (suc (suc (suc (suc (suc zero))))))))))))) e = check 6 (no_block g s c.x) _ λ _.
      plain 13 e refl _ _ _ (λ v. refl) (binds_refl g s)
  moves (suc (suc (suc (suc (suc (suc (suc (suc (suc (suc (suc (suc (suc (suc zero)))))))))))))) e = check 6 (no_block g s c.x) _ λ _.
      plain 14 e refl _ _ _ (λ v. refl) (binds_refl g s)
  moves (suc (suc (suc (suc (suc (suc (suc (suc (suc (suc (suc (suc (suc (suc (suc zero))))))))))))))) e =
      check 6 (no_block g s c.x || leb type_count c.y) _ λ _.
      check 17 (g.sealed c.x || not (eqb (length (g.preds c.x)) 0) || not (eqb (length (s.pending c.x)) 0)) _ λ _.
      check 18 (leb limits.own_params (s.owns c.x)) _ λ _. check 4 (leb limits.made s.makes) _ λ _.
      plain 15 e refl _ _ _ (λ v. refl) (make_binds g caller c.y c.x s)
  moves (suc (suc (suc (suc (suc (suc (suc (suc (suc (suc (suc (suc (suc (suc (suc (suc zero)))))))))))))))) e =
      let d = get_or (g.dests c.x) c.z 0 in
      let n = length (s.args c.x c.z) in
      check 6 (no_branch g s c.x || no_value g s c.y || leb (length (g.dests c.x)) c.z) _ λ _. check 11 (declared_anywhere g c.x) _ λ _.
      check 18 (leb (s.owns d) n) _ λ _. check 7 (not (eqb (s.info c.y).type (s.info (get_or (s.params d) n 0)).type)) _ λ _.
      plain 16 e refl _ _ _ (λ v. refl) (binds_refl g s)
  moves (suc (suc (suc (suc (suc (suc (suc (suc (suc (suc (suc (suc (suc (suc (suc (suc (suc zero))))))))))))))))) e = mark_moves c.x (mute 17 c.x e refl)
  moves (suc (suc (suc (suc (suc (suc (suc (suc (suc (suc (suc (suc (suc (suc (suc (suc (suc (suc k)))))))))))))))))) e = tt

  moved_after : (r : Reply) → Fine ⊥ g s t.done h.whole c r → Moves r
      → (d : Done) × Moved t (after t c r) d × ((after t c r).done ≡ t.done ∷ʳ d) × (d.asked ≡ c)
  moved_after (no k) n m = (said k 0, binding k 0 silent g s (λ v. refl) (binds_refl g s), refl, refl)
    where
      silent : Mute k 0
      silent b v x i = n (eqb_eq k 0 (and_both (eqb k 0) (eqb c.kind 4 || eqb c.kind 5) (gives_only b (said k 0) v x i)).0)
  moved_after (ok n g' s') f m = (said 0 n, m, refl, refl)

-- ---- a session

-- the call c after the calls cs
pub record Went (cs : List Call) (c : Call) : Type 0 where
  pub answer : Done
  pub asked : answer.asked ≡ c
  pub done : (session (cs ∷ʳ c)).done ≡ (session cs).done ∷ʳ answer
  pub moved : Moved (session cs) (session (cs ∷ʳ c)) answer

pub went : (cs : List Call) (c : Call) → Went cs c
went cs c =
    let t = session cs in
    let r = reply t.graph t.form t.done c.x c.y c.z c.kind in
    let m = moved_after t (sure cs) c r (fine ⊥ t.graph t.form t.done (sure cs).whole c c.kind refl) (moves t (sure cs) c c.kind refl) in
    record {
      answer = m.0;
      asked = m.3;
      done = ap (λ (u : State). u.done) (run_last cs c empty) ∙ m.2;
      moved = subst (λ (u : State). Moved t u m.0) (sym (run_last cs c empty)) m.1;
    }

-- what holds from call to call holds from then on
onward : (P : List Call → Type 0) → ((cs : List Call) (c : Call) → P cs → P (cs ∷ʳ c)) → (ds cs : List Call) → P cs → P (cs ++ ds)
onward P more [] cs p = subst P (sym (append-nil cs)) p
onward P more (d ∷ ds) cs p = subst P (append_assoc cs (d ∷ []) ds) (onward P more ds (cs ∷ʳ d) (more cs d p))

-- what stands where a block begins stays, and so does what is in the set
pub entries_stay : (cs ds : List Call) (v b x : ℕ) → (session cs).form.entry v b ≡ some x → (session (cs ++ ds)).form.entry v b ≡ some x
entries_stay cs ds v b x = onward (λ l. (session l).form.entry v b ≡ some x) (λ l c. (went l c).moved.entry v b x) ds cs

pub recorded_stays : (cs ds : List Call) (x : ℕ) → (session cs).form.recorded x ≡ true → (session (cs ++ ds)).form.recorded x ≡ true
recorded_stays cs ds x = onward (λ l. (session l).form.recorded x ≡ true) (λ l c. (went l c).moved.still x) ds cs

pub well : (cs : List Call) → Well (session cs)
well cs = onward (λ l. Well (session l)) (λ l c. (went l c).moved.well) cs []
    (record { bound = λ v b x m. absurd (false_true refl m); heard = λ v b x m. absurd (false_true refl m) })

-- a call more
given_more : (cs : List Call) (c : Call) (v x : ℕ) → GivenTo (session cs) v x → GivenTo (session (cs ∷ʳ c)) v x
given_more cs c v x k =
    let w = went cs c in
    let l = acts k.0 (session cs).done in
    (k.0, rw (w.done, acts_snoc k.0 (session cs).done w.answer) (in_left (gives v x) l (act k.0 w.answer) k.1))

appended_more : (cs : List Call) (c : Call) (v x : ℕ) → Appended cs v x → Appended (cs ∷ʳ c) v x
appended_more cs c v x a = record {
  before = a.before;
  call = a.call;
  after = a.after ∷ʳ c;
  parts = ap (λ (l : List Call). l ∷ʳ c) a.parts ∙ append_assoc a.before (a.call ∷ a.after) (c ∷ []);
  new = a.new;
  causes = a.causes;
}

appended_parts : (cs : List Call) (v x : ℕ) (a : Appended cs v x) → (a.before ∷ʳ a.call) ++ a.after ≡ cs
appended_parts cs v x a = append_assoc a.before (a.call ∷ []) a.after ∙ sym a.parts

-- who is in the set is there for a reason
abbrev Sourced : List Call → Type 0
Sourced cs = (x : ℕ) → (session cs).form.recorded x ≡ true → (v : ℕ) × ((session cs).graph.marks v ≡ true) × Receives cs v x

sourced_more : (cs : List Call) (c : Call) → Sourced cs → Sourced (cs ∷ʳ c)
sourced_more cs c S x q = elim (m.new x q) [
  | inl i ↦ let k = S x i in (k.0, m.marks k.0 k.1, more k.0 k.2)
  | inr (inl i) ↦ (
    i.3.0,
    m.marks i.3.0 i.3.1,
    inr (record {
      before = cs;
      call = c;
      after = [];
      parts = refl;
      new = i.0;
      causes = record { below = i.1; sort = i.2; home = refl; entry = i.3.2 };
    }),
  )
  | inr (inr i) ↦ (
    i.0,
    m.marks i.0 i.2,
    inl (
      i.1,
      rw (w.done, acts_snoc i.1 (session cs).done w.answer)
          (in_right (gives i.0 x) (acts i.1 (session cs).done) (act i.1 w.answer) i.3),
    ),
  )
]
  where
    w : Went cs c
    w = went cs c

    m : Moved (session cs) (session (cs ∷ʳ c)) (went cs c).answer
    m = (went cs c).moved

    more : (v : ℕ) → Receives cs v x → Receives (cs ∷ʳ c) v x
    more v (inl k) = inl (given_more cs c v x k)
    more v (inr k) = inr (appended_more cs c v x k)

pub exactly : (cs : List Call) → RecordedExactly cs
exactly cs = record {
  only = onward Sourced sourced_more cs [] (λ x q. absurd (false_true refl q));
  all = all;
}
  where
    all : (x v : ℕ) → (session cs).graph.marks v ≡ true → Receives cs v x → (session cs).form.recorded x ≡ true
    all x v m (inl k) = (well cs).heard v k.0 x m k.1
    all x v m (inr a) =
        let b = ((session (a.before ∷ʳ a.call)).form.info x).home in
        let e = entries_stay (a.before ∷ʳ a.call) a.after v b x a.causes.entry in
        (well cs).bound v b x m (inr (subst (λ (l : List Call). (session l).form.entry v b ≡ some x) (appended_parts cs v x a) e))

-- ---- what follows

-- two places in a list are the same, or one comes before the other
abbrev Before : (List Call × Call) → List Call → Type 0
Before p cs = (r : List Call) × (cs ≡ (p.0 ∷ʳ p.1) ++ r)

places : (us vs : List Call) (c d : Call) (rs qs : List Call) → us ++ c ∷ rs ≡ vs ++ d ∷ qs
    → ((us ≡ vs) × (c ≡ d)) ⊎ (Before (us, c) vs ⊎ Before (vs, d) us)
places [] [] c d rs qs e = inl (refl, cc)
places [] (v ∷ vs) c d rs qs e = let q : c ≡ v = cc in inr (inl (vs, ap {B = List Call} (λ a. a ∷ vs) (sym q)))
places (u ∷ us) [] c d rs qs e = let q : d ≡ u = cc in inr (inr (us, ap {B = List Call} (λ a. a ∷ us) (sym q)))
places (u ∷ us) (v ∷ vs) c d rs qs e = let q : u ≡ v = cc in let k : us ++ c ∷ rs ≡ vs ++ d ∷ qs = cc in on q (places us vs c d rs qs k)
  where
    on : u ≡ v → ((us ≡ vs) × (c ≡ d)) ⊎ (Before (us, c) vs ⊎ Before (vs, d) us)
        → ((u ∷ us ≡ v ∷ vs) × (c ≡ d)) ⊎ (Before (u ∷ us, c) (v ∷ vs) ⊎ Before (v ∷ vs, d) (u ∷ us))
    on q (inl k) = inl (ap {B = List Call} (λ a. a ∷ us) q ∙ ap {B = List Call} (λ l. v ∷ l) k.0, k.1)
    on q (inr (inl k)) = inr (inl (k.0, ap {B = List Call} (λ a. a ∷ vs) (sym q) ∙ ap {B = List Call} (λ l. u ∷ l) k.1))
    on q (inr (inr k)) = inr (inr (k.0, ap {B = List Call} (λ a. a ∷ us) q ∙ ap {B = List Call} (λ l. v ∷ l) k.1))

-- a parameter is appended for one variable
pub one_appended : (cs : List Call) (v w x : ℕ) → Appended cs v x → Appended cs w x → v ≡ w
one_appended cs v w x a b = elim (places a.before b.before a.call b.call a.after b.after (sym a.parts ∙ b.parts)) [
  | inl k ↦ together (ap {B = List Call} (λ l. l ∷ʳ a.call) k.0 ∙ ap {B = List Call} (λ c. b.before ∷ʳ c) k.1)
  | inr (inl k) ↦ absurd (later a b k.0 k.1)
  | inr (inr k) ↦ absurd (later b a k.0 k.1)
]
  where
    -- x was there once the first call was done, so a later one did not append it
    later : {u r : ℕ} (p : Appended cs u x) (q : Appended cs r x) (l : List Call) → q.before ≡ (p.before ∷ʳ p.call) ++ l → ⊥
    later p q l e = omega (
      arith,
      p.causes.below,
      (from_then (p.before ∷ʳ p.call) l).more,
      subst (λ (i : List Call). (session i).form.next ≤ x) e q.new,
    )

    together : a.before ∷ʳ a.call ≡ b.before ∷ʳ b.call → v ≡ w
    together e = (went a.before a.call).moved.one v w _ _ x a.new a.causes.entry
        (subst (λ (l : List Call). (session l).form.entry w ((session (b.before ∷ʳ b.call)).form.info x).home ≡ some x) (sym e) b.causes.entry)

-- a zero is in the set only where it was given
pub zeros_given : (cs : List Call) → ZerosGiven cs
zeros_given cs z q n = let k = (exactly cs).only z q in (k.0, k.1, by k.0 k.2)
  where
    by : (v : ℕ) → Receives cs v z → GivenTo (session cs) v z
    by v (inl g) = g
    by v (inr a) =
        let then = a.before ∷ʳ a.call in
        let kept = (from_then then a.after).info z a.causes.below in
        let i = subst (λ (l : List Call). (session l).form.info z ≡ (session then).form.info z) (appended_parts cs v z a) kept in
        absurd (nought_param n (ap (λ (j : Info). j.sort) i ∙ a.causes.sort))

-- a call that is no definition adds no value that was there before it
pub copies_not_added : (cs : List Call) (c : Call) → CopiesNotAdded cs c
copies_not_added cs c n₄ n₅ x l q = elim ((went cs c).moved.new x q) [
  | inl i ↦ i
  | inr (inl i) ↦ absurd (omega (arith, l, i.0))
  | inr (inr i) ↦ let d = (went cs c).answer in
      absurd (false_true (rw ((went cs c).asked, eqb_diff c.kind 4 n₄, eqb_diff c.kind 5 n₅) refl)
      (and_both (eqb d.code 0) (eqb d.asked.kind 4 || eqb d.asked.kind 5) (gives_only i.1 d i.0 x i.3)).1)
]

-- ---- what stands for a marked variable

defs_of : (g : Graph) (s : Form) → Bound g.marks s.own s.entry s.recorded → DefsRecorded g s
defs_of g s B v b x m e = B v b x m (stands s v b x e)

in_turn_of : (g : Graph) (s : Form) → Bound g.marks s.own s.entry s.recorded → DefsRecordedInTurn g s
in_turn_of g s B = record {
  of_use = λ v b n.
      let c = visit g v b [] [] s (def s v b) in
      defs_of g (turns n g v c).form ((turns_bind g v n c).bound ((visit_binds g v b [] [] s).bound B));
  of_seal = λ b us w n.
      let now = mark_sealed g b in
      let s' = settle_pending now b us (set_pending b [] s) in
      let c = conf (schedule now w.1 b []) [] s' in
      defs_of now (turns n now w.0 c).form ((turns_bind now w.0 n c).bound ((settled_binds now b us (set_pending b [] s)).bound B));
}

pub defs_recorded : (cs : List Call) → DefsRecorded (session cs).graph (session cs).form
defs_recorded cs = defs_of (session cs).graph (session cs).form (well cs).bound

-- also once the blocks bs are sealed in turn
pub defs_recorded_in_turn : (cs : List Call) (bs : List ℕ)
    → let r = seal_each bs (session cs).graph (session cs).form in DefsRecordedInTurn r.0 r.1
defs_recorded_in_turn cs bs =
    let q = seal_each bs (session cs).graph (session cs).form in
    let r = each_binds bs (session cs).graph (session cs).form in
    in_turn_of q.0 q.1 (λ v b x m. r.1.bound (well cs).bound v b x (sym (r.0 v) ∙ m))
