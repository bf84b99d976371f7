-- What holds after every list of calls, with no supposition: each of the seventeen kinds of call keeps it. Assumes nothing.
use Prim.Native.Nat.{ℕ, zero, suc, ◌<◌, ◌≤◌}
use mathlib.Core.Path.{◌≡◌, refl, sym, ◌∙◌}
use mathlib.Core.Logic.{◌⊎◌, inl, inr}
use mathlib.Core.Bool.{Bool, true, false, cond, not, ◌&&◌, ◌||◌}
use mathlib.Core.Option.{Option, none, some}
use mathlib.Core.List.{List, [], ◌∷◌, ◌++◌}
use lib.Dec.{eqb, ltb, leb}
use lib.ListN.{length, get_or, length-append, get_or-append}
use native.Mathlib.Omega.{arith}
use native.Mathlib.Nat.{le_trans, not-suc-le-zero}
use Rattle.entity.specs.Types.{type_count}
use Rattle.entity.specs.Limits.{limits}
use Rattle.definition.specs.Base.{put, put₂, is_some, has, any, up_from}
use Rattle.definition.specs.Form.{Graph, Form, def, made, caller, with_args, with_makes, with_blocks, with_preds, with_declared, with_marks, with_dests}
use Rattle.definition.specs.Read.{type_of, write, record_binding, make, place_block}
use Rattle.definition.specs.Session.{Call, Done, State, Reply, no, ok, refuse◌when◌else◌, declared_anywhere, no_block, no_var, no_value, no_branch}
use Rattle.definition.specs.Session.{declare_block, declare_var, make_value, define, use_var, new_branch, new_dest, add_pred, drop_pred, seal, seal_form}
use Rattle.definition.specs.Session.{mark_sealed, seal_each, seal_all, define_answer, answered, own_param, give_arg, mark_var, reply, tick, after, step, run, empty}
use Rattle.definition.specs.Session.{session}
use Rattle.meaning.specs.Path.{In}
use Rattle.meaning.proofs.Maps.{same?, put_other, put_at, eqb_eq, false_true, some_none, ltb_no, leb_no, or_no, not_no, and_both, some_inj}
use Rattle.meaning.proofs.Lists.{in_cases, in_one, put_in, getD_last}
use Rattle.meaning.proofs.Inv.{Later, later_refl, later_trans, later_make}
use Rattle.meaning.proofs.Sealing.{idle}
use Rattle.meaning.proofs.Load.{Load, load_same}
use Rattle.meaning.proofs.Whole.{Whole, Fine, fine}
use Rattle.meaning.proofs.Demand.{Good, empty_good, after_good}
use Rattle.meaning.proofs.Ranges.{Bounds, Ranged, write_ranged, make_ranged, own_ranged, give_ranged, wider_ranged, place_ranged}
use Rattle.meaning.proofs.Lacking.{all_fewer, all_le, write_somes}
use Rattle.meaning.proofs.Mid.{Rest}
use Rattle.meaning.proofs.Rest.{read_rest, seal_rest, bounds_sealed, each_rest, up_below}
use Rattle.meaning.proofs.Sums.{sum_most}

-- the value that an accepted use answered
answered_last : (ds : List Done) (d : Done) (i x : ℕ) → answered (ds ++ d ∷ []) i ≡ some x
    → (answered ds i ≡ some x) ⊎ ((eqb d.asked.kind 6 && eqb d.code 0 ≡ true) × (d.number ≡ x))
answered_last [] d zero x q = by (eqb d.asked.kind 6 && eqb d.code 0) q
  where
    by : (z : Bool) → cond z (some d.number) none ≡ some x → (◌≡◌ {A = Option ℕ} none (some x)) ⊎ ((z ≡ true) × (d.number ≡ x))
    by true e = inr (refl, some_inj e)
    by false e = inl e
answered_last [] d (suc i) x q = inl q
answered_last (e ∷ ds) d zero x q = inl q
answered_last (e ∷ ds) d (suc i) x q = answered_last ds d i x q

pub record Safe (g : Graph) (s : Form) : Type 0 where
  pub bounds : Bounds g
  pub ranged : Ranged g s
  pub load : Load s 0

-- one call
module _ (g : Graph) (s : Form) (ds : List Done) (w : Whole ⊥ g s ds) (h : Safe g s) (c : Call) where
  rest : Rest g idle 0 s
  rest = record { caller = w.caller; kp = w.kp; inv = w.inv; ranged = h.ranged; load = h.load }

  -- what a reply has to show: values stay, and a use answers one
  pub record Kept (n : ℕ) (g' : Graph) (s' : Form) : Type 0 where
    pub safe : Safe g' s'
    pub later : Later s s'
    pub answer : c.kind ≡ 6 → n < s'.next
    pub calls : g'.call ≡ g.call

  abbrev pub Keep : Reply → Type 0
  Keep (no k) = Unit {0}
  Keep (ok n g' s') = Kept n g' s'

  check : (k : ℕ) (b : Bool) (r : Reply) → (b ≡ false → Keep r) → Keep (refuse◌when◌else◌ k b r)
  check k true r f = tt
  check k false r f = f refl

  choose : (b : Bool) (r q : Reply) → (b ≡ true → Keep r) → (b ≡ false → Keep q) → Keep (cond b r q)
  choose true r q f u = f refl
  choose false r q f u = u refl

  load_placed : (b : ℕ) → Load (place_block b s) 0
  load_placed b = load_same s (place_block b s) (λ u d o. o) refl 0 refl refl refl h.load

  module _ (other : c.kind ≡ 6 → ⊥) where
    nothing : (n : ℕ) → Keep (ok n g s)
    nothing n = record { safe = h; later = later_refl s; answer = λ e. absurd (other e); calls = refl }

    keep : (n : ℕ) (g' : Graph) (s' : Form) → g'.call ≡ g.call → Bounds g' → Ranged g' s' → Load s' 0 → Later s s'
        → Keep (ok n g' s')
    keep n g' s' q b r l up = record { safe = record { bounds = b; ranged = r; load = l }; later = up; answer = λ e. absurd (other e); calls = q }

    keep_block : (x : ℕ) → Keep (declare_block g s x)
    keep_block x = check 4 (leb limits.blocks x) _ λ e₄. check 5 (ltb g.blocks x) _ λ e₅. choose (ltb x g.blocks) _ _ (λ _. nothing x)
        λ e. by (eqb x 0) (leb_no limits.blocks x e₄) (omega (arith, ltb_no x g.blocks e))
      where
        by : (z : Bool) → x < limits.blocks → g.blocks ≤ suc x → Keep (ok x (with_blocks g (suc x)) (cond z (place_block 0 s) s))
        by z lo up = on z
          where
            b' : Bounds (with_blocks g (suc x))
            b' = record {
              few = lo;
              vars = h.bounds.vars;
              typed = h.bounds.typed;
              dests = h.bounds.dests;
              aims = λ p b i. le_trans (h.bounds.aims p b i) up;
              from = h.bounds.from;
              branches = λ p e. le_trans (h.bounds.branches p e) up;
              shut = λ b e. le_trans (h.bounds.shut b e) up;
              marked = h.bounds.marked;
            }

            r' : Ranged (with_blocks g (suc x)) s
            r' = wider_ranged g s h.ranged (with_blocks g (suc x)) up (omega arith) (omega arith) (λ b. refl)

            on : (z : Bool) → Keep (ok x (with_blocks g (suc x)) (cond z (place_block 0 s) s))
            on true = keep x _ (place_block 0 s) refl b' (place_ranged (with_blocks g (suc x)) s r' 0 (omega arith)) (load_placed 0) (later_refl s)
            on false = keep x _ s refl b' r' h.load (later_refl s)

    keep_var : (x y : ℕ) → Keep (declare_var g s x y)
    keep_var x y =
        check 4 (leb limits.variables x) _ λ e₄. check 5 (ltb (length g.types) x) _ λ e₅. check 6 (leb type_count y) _ λ e₆.
        check 7 (ltb x (length g.types) && not (eqb y (type_of g x))) _ λ _. choose (ltb x (length g.types)) _ _ (λ _. nothing x) λ e.
        let more = length-append g.types (y ∷ []) in
        keep x _ s refl
        (record {
          few = h.bounds.few;
          vars = omega (arith, leb_no limits.variables x e₄, ltb_no x (length g.types) e, more);
          typed = λ u l. elim (same? u (length g.types)) [
            | inl q ↦ rw (q, getD_last g.types y) (leb_no type_count y e₆)
            | inr n ↦ let lu : u < length g.types = omega (arith, l, more) in rw (get_or-append g.types (y ∷ []) 0 u lu) (h.bounds.typed u lu)
          ];
          dests = h.bounds.dests;
          aims = h.bounds.aims;
          from = h.bounds.from;
          branches = h.bounds.branches;
          shut = h.bounds.shut;
          marked = λ v e. omega (arith, h.bounds.marked v e, more);
        })
        (wider_ranged g s h.ranged _ (omega arith) (omega (arith, more)) (omega arith) (λ b. refl)) h.load (later_refl s)

    keep_make : (x y : ℕ) → Keep (make_value g s x y)
    keep_make x y = check 6 (no_block g s x || leb type_count y) _ λ e₆. check 9 (g.branch x) _ λ _. check 4 (leb limits.made s.makes) _ λ e₄.
        let o = or_no (no_block g s x) (leb type_count y) e₆ in
        let t = make made y x (place_block x (with_makes s (suc s.makes))) in
        let f = all_fewer s t (λ u d k. k) in
        keep s.next g t refl h.bounds (make_ranged g s h.ranged (suc s.makes) y x (leb_no g.blocks x o.0) (leb_no type_count y o.1) (w.inv.aliased.fresh s.next (omega arith)))
        (record { values = omega (arith, h.load.values, f); zeros = omega (arith, h.load.zeros, f); made = leb_no limits.made s.makes e₄ })
        (later_make s made y x)

    keep_define : (v x b : ℕ) → Keep (define g s v x b)
    keep_define v x b = check 6 (no_var g s v || no_value g s x || no_block g s b) _ λ e₆. check 7 (not (eqb (s.info x).type (type_of g v))) _ λ _.
        check 20 (g.declared b) _ λ _.
        let p = or_no (no_var g s v || no_value g s x) (no_block g s b) e₆ in
        let o = or_no (no_var g s v) (no_value g s x) p.0 in
        let t = record_binding g v x (write v b x s) in
        keep x g t refl h.bounds (write_ranged g s h.ranged v b x (leb_no (length g.types) v o.0) (leb_no g.blocks b p.1) (leb_no s.next x o.1))
        (load_same s t (write_somes s v b x) refl 0 refl refl refl h.load) (later_refl s)

    keep_define_at : (v b : ℕ) (o : Option ℕ) → Keep (define_answer g s v b o)
    keep_define_at v b none = tt
    keep_define_at v b (some x) = keep_define v x b

    keep_mark : (v : ℕ) → Keep (mark_var g s v)
    keep_mark v = check 6 (no_var g s v) _ λ e₆. check 19 (any (λ b. is_some (def s v b)) (up_from 0 g.blocks)) _ λ _.
        let g' = with_marks g (put v true g.marks) in
        keep v g' s refl
        (record {
          few = h.bounds.few;
          vars = h.bounds.vars;
          typed = h.bounds.typed;
          dests = h.bounds.dests;
          aims = h.bounds.aims;
          from = h.bounds.from;
          branches = h.bounds.branches;
          shut = h.bounds.shut;
          marked = λ w e. elim (same? w v) [
            | inl q ↦ rw q (leb_no (length g.types) v e₆)
            | inr n ↦ h.bounds.marked w (sym (put_other v true g.marks w n) ∙ e)
          ];
        })
        (wider_ranged g s h.ranged g' (omega arith) (omega arith) (omega arith) (λ b. refl)) h.load (later_refl s)

    keep_branch : (b : ℕ) → Keep (new_branch g s b)
    keep_branch b = check 6 (no_block g s b) _ λ e₆. check 9 (g.branch b) _ λ _.
        let lb = leb_no g.blocks b e₆ in
        keep b _ (place_block b s) refl
        (record {
          few = h.bounds.few;
          vars = h.bounds.vars;
          typed = h.bounds.typed;
          dests = h.bounds.dests;
          aims = h.bounds.aims;
          from = λ p d i. elim (same? p b) [ inl q ↦ put_at b true g.branch p q | inr n ↦ put_other b true g.branch p n ∙ h.bounds.from p d i ];
          branches = λ p e. elim (same? p b) [ inl q ↦ rw q lb | inr n ↦ h.bounds.branches p (sym (put_other b true g.branch p n) ∙ e) ];
          shut = h.bounds.shut;
          marked = h.bounds.marked;
        })
        (wider_ranged g (place_block b s) (place_ranged g s h.ranged b lb) _ (omega arith) (omega arith) (omega arith) (λ d. refl)) (load_placed b)
        (later_refl s)

    keep_dest : (p b : ℕ) → Keep (new_dest g s p b)
    keep_dest p b =
        check 6 (no_branch g s p || no_block g s b) _ λ e₆. check 11 (declared_anywhere g p) _ λ _. check 10 (leb limits.dests (length (g.dests p))) _ λ e₁₀.
        let o = or_no (no_branch g s p) (no_block g s b) e₆ in
        let br = not_no (g.branch p) (or_no (no_block g s p) (not (g.branch p)) o.0).1 in
        let ds = g.dests p ++ b ∷ [] in
        keep (length (g.dests p)) (with_dests g (put p ds g.dests)) s refl
        (record {
          few = h.bounds.few;
          vars = h.bounds.vars;
          typed = h.bounds.typed;
          dests = λ q. elim (same? q p) [
            | inl e ↦ rw (put_at p ds g.dests q e, length-append (g.dests p) (b ∷ [])) (omega (arith, leb_no limits.dests (length (g.dests p)) e₁₀))
            | inr n ↦ rw (put_other p ds g.dests q n) (h.bounds.dests q)
          ];
          aims = λ q d i. elim (put_in d p ds g.dests q i) [
            | inl k ↦ elim (in_cases d (g.dests p) (b ∷ []) k.1) [ inl j ↦ h.bounds.aims p d j | inr j ↦ rw (in_one d b j) (leb_no g.blocks b o.1) ]
            | inr j ↦ h.bounds.aims q d j
          ];
          from = λ q d i. elim (put_in d p ds g.dests q i) [ inl k ↦ rw k.0 br | inr j ↦ h.bounds.from q d j ];
          branches = h.bounds.branches;
          shut = h.bounds.shut;
          marked = h.bounds.marked;
        })
        (wider_ranged g s h.ranged _ (omega arith) (omega arith) (omega arith) (λ d. refl)) h.load (later_refl s)

    -- other predecessors
    keep_joined : (n b : ℕ) (ps : List ℕ) (dc : ℕ → Bool) → Keep (ok n (with_declared (with_preds g (put b ps g.preds)) dc) s)
    keep_joined n b ps dc = keep n _ s refl h.bounds (wider_ranged g s h.ranged _ (omega arith) (omega arith) (omega arith) (λ d. refl)) h.load
        (later_refl s)

    keep_pred : (b p : ℕ) → Keep (add_pred g s b p)
    keep_pred b p = check 6 (no_block g s b || no_branch g s p) _ λ _. check 8 (g.sealed b) _ λ _. check 13 (not (has b (g.dests p))) _ λ _. check 12
        (has p (g.preds b)) _ λ _.
        keep_joined _ b _ _

    keep_drop : (b p : ℕ) → Keep (drop_pred g s b p)
    keep_drop b p = check 6 (no_block g s b || no_branch g s p) _ λ _. check 8 (g.sealed b) _ λ _. check 13
        (not (has p (g.preds b))) _ λ _. keep_joined _ b _ g.declared

    keep_own : (b ty : ℕ) → Keep (own_param g s b ty)
    keep_own b ty =
        check 6 (no_block g s b || leb type_count ty) _ λ e₆.
        check 17 (g.sealed b || not (eqb (length (g.preds b)) 0) || not (eqb (length (s.pending b)) 0)) _ λ _.
        check 18 (leb limits.own_params (s.owns b)) _ λ _. check 4 (leb limits.made s.makes) _ λ e₄.
        let o = or_no (no_block g s b) (leb type_count ty) e₆ in
        let t = make caller ty b (with_makes s (suc s.makes)) in
        let f = all_fewer s t (λ u d k. k) in
        keep s.next g _ refl h.bounds
        (own_ranged g s h.ranged (suc s.makes) ty b (put b (s.params b ++ s.next ∷ []) s.params) (put b (suc (s.owns b)) s.owns)
        (leb_no g.blocks b o.0) (leb_no type_count ty o.1) (w.inv.aliased.fresh s.next (omega arith)))
        (record { values = omega (arith, h.load.values, f); zeros = omega (arith, h.load.zeros, f); made = leb_no limits.made s.makes e₄ })
        (later_make s caller ty b)

    keep_give : (p x i : ℕ) → Keep (give_arg g s p x i)
    keep_give p x i =
        let d = get_or (g.dests p) i 0 in
        check 6 (no_branch g s p || no_value g s x || leb (length (g.dests p)) i) _ λ e₆. check 11 (declared_anywhere g p) _ λ _.
        check 18 (leb (s.owns d) (length (s.args p i))) _ λ _.
        check 7 (not (eqb (s.info x).type (s.info (get_or (s.params d) (length (s.args p i)) 0)).type)) _ λ _.
        let o = or_no (no_branch g s p || no_value g s x) (leb (length (g.dests p)) i) e₆ in
        let lx = leb_no s.next x (or_no (no_branch g s p) (no_value g s x) o.0).1 in
        let t = with_args s (put₂ p i (s.args p i ++ x ∷ []) s.args) in
        keep (length (s.args p i)) g t refl h.bounds (give_ranged g s h.ranged p i x lx) (load_same s t (λ u d k. k) refl 0 refl refl refl h.load)
        (later_refl s)

    keep_ask : (b n : ℕ) → Keep (refuse◌when◌else◌ 6 (no_block g s b) (ok n g s))
    keep_ask b n = check 6 (no_block g s b) _ λ _. nothing n

    keep_seal : (b : ℕ) → Keep (seal g s b)
    keep_seal b = check 6 (no_block g s b) _ λ e₆. check 8 (g.sealed b) _ λ e₈.
        let lb = leb_no g.blocks b e₆ in
        let r = seal_rest g w.sound h.bounds b lb e₈ s rest in
        keep _ (mark_sealed g b) (seal_form g s b) refl (bounds_sealed g w.sound h.bounds b lb e₈) r.0.ranged r.0.load r.1

    keep_all : Keep (seal_all g s)
    keep_all =
        let r = each_rest (up_from 0 g.blocks) g s (λ b i. omega (arith, up_below g.blocks 0 b i)) w.sound h.bounds rest in
        keep _ (seal_each (up_from 0 g.blocks) g s).0 (seal_each (up_from 0 g.blocks) g s).1 r.calls r.bounds r.rest.ranged r.rest.load
        r.later

  keep_use : (v b : ℕ) → Keep (use_var g s v b)
  keep_use v b = check 6 (no_var g s v || no_block g s b) _ λ e.
      let o = or_no (no_var g s v) (no_block g s b) e in
      let lv = leb_no (length g.types) v o.0 in
      let r = read_rest g w.sound h.bounds v lv b s (leb_no g.blocks b o.1) rest in
      record { safe = record { bounds = h.bounds; ranged = r.0.ranged; load = r.0.load }; later = r.2; answer = λ _. r.1; calls = refl }

  -- the seventeen kinds
  pub kept : (k : ℕ) → c.kind ≡ k → Keep (reply g s ds c.x c.y c.z k)
  kept zero e = tt
  kept (suc zero) e = keep_block (λ q. omega (arith, e, q)) c.x
  kept (suc (suc zero)) e = keep_var (λ q. omega (arith, e, q)) c.x c.y
  kept (suc (suc (suc zero))) e = keep_make (λ q. omega (arith, e, q)) c.x c.y
  kept (suc (suc (suc (suc zero)))) e = keep_define (λ q. omega (arith, e, q)) c.x c.y c.z
  kept (suc (suc (suc (suc (suc zero))))) e = keep_define_at (λ q. omega (arith, e, q)) c.x c.z (answered ds c.y)
  kept (suc (suc (suc (suc (suc (suc zero)))))) e = keep_use c.x c.y
  kept (suc (suc (suc (suc (suc (suc (suc zero))))))) e = keep_branch (λ q. omega (arith, e, q)) c.x
  kept (suc (suc (suc (suc (suc (suc (suc (suc zero)))))))) e = keep_dest (λ q. omega (arith, e, q)) c.x c.y
  kept (suc (suc (suc (suc (suc (suc (suc (suc (suc zero))))))))) e = keep_pred (λ q. omega (arith, e, q)) c.x c.y
  kept (suc (suc (suc (suc (suc (suc (suc (suc (suc (suc zero)))))))))) e = keep_drop (λ q. omega (arith, e, q)) c.x c.y
  kept (suc (suc (suc (suc (suc (suc (suc (suc (suc (suc (suc zero))))))))))) e = keep_seal (λ q. omega (arith, e, q)) c.x
  kept (suc (suc (suc (suc (suc (suc (suc (suc (suc (suc (suc (suc zero)))))))))))) e = keep_all (λ q. omega (arith, e, q))
  kept (suc (suc (suc (suc (suc (suc (suc (suc (suc (suc (suc (suc (suc zero))))))))))))) e = keep_ask (λ q. omega (arith, e, q)) c.x _
  kept (suc (suc (suc (suc (suc (suc (suc (suc (suc (suc (suc (suc (suc (suc zero)))))))))))))) e = keep_ask (λ q. omega (arith, e, q)) c.x _
  kept (suc (suc (suc (suc (suc (suc (suc (suc (suc (suc (suc (suc (suc (suc (suc zero))))))))))))))) e = keep_own (λ q. omega (arith, e, q)) c.x c.y
  kept (suc (suc (suc (suc (suc (suc (suc (suc (suc (suc (suc (suc (suc (suc (suc (suc zero)))))))))))))))) e =
      keep_give (λ q. omega (arith, e, q)) c.x c.y c.z
  kept (suc (suc (suc (suc (suc (suc (suc (suc (suc (suc (suc (suc (suc (suc (suc (suc (suc zero))))))))))))))))) e = keep_mark (λ q. omega (arith, e, q)) c.x
  kept (suc (suc (suc (suc (suc (suc (suc (suc (suc (suc (suc (suc (suc (suc (suc (suc (suc (suc k)))))))))))))))))) e = tt

-- after some calls
pub record Sure (t : State) : Type 0 where
  pub whole : Good ⊥ t
  pub safe : Safe t.graph t.form
  pub count : t.graph.call ≡ length t.done
  pub logged : (z : ℕ × ℕ) → In z t.form.zeros → z.0 < t.graph.call
  pub answers : (i x : ℕ) → answered t.done i ≡ some x → x < t.form.next

tick_safe : (g : Graph) (s : Form) → Safe g s → Safe (tick g) s
tick_safe g s h = record { bounds = h.bounds; ranged = wider_ranged g s h.ranged (tick g) (omega arith) (omega arith) (omega arith) (λ b. refl); load = h.load }

module _ (t : State) (c : Call) (h : Sure t) where
  after_sure : (r : Reply) → Good ⊥ (after t c r) → Fine ⊥ t.graph t.form t.done h.whole c r
      → Keep t.graph t.form t.done h.whole h.safe c r → Sure (after t c r)
  after_sure (no k) w n f = record {
    whole = w;
    safe = tick_safe t.graph t.form h.safe;
    count = omega (arith, h.count, length-append t.done (record { asked = c; code = k; number = 0 } ∷ []));
    logged = λ z i. omega (arith, h.logged z i);
    answers = λ i x q. elim (answered_last t.done (record { asked = c; code = k; number = 0 }) i x q) [
      | inl o ↦ h.answers i x o
      | inr o ↦ absurd (n (eqb_eq k 0 (and_both (eqb c.kind 6) (eqb k 0) o.0).1))
    ];
  }
  after_sure (ok n g s) w u f = record {
    whole = w;
    safe = tick_safe g s f.safe;
    count = omega (arith, h.count, f.calls, length-append t.done (record { asked = c; code = 0; number = n } ∷ []));
    logged = λ z i. omega (arith, (f.safe.ranged.logs.noted z i).0);
    answers = λ i x q. elim (answered_last t.done (record { asked = c; code = 0; number = n }) i x q) [
      | inl o ↦ le_trans (h.answers i x o) f.later.more
      | inr o ↦ rw o.1 at (f.answer (eqb_eq c.kind 6 (and_both (eqb c.kind 6) true o.0).0))
    ];
  }

  pub step_sure : Sure (step t c)
  step_sure =
      let r = reply t.graph t.form t.done c.x c.y c.z c.kind in
      let f = fine ⊥ t.graph t.form t.done h.whole c c.kind refl in
      after_sure r (after_good ⊥ t c h.whole r f) f (kept t.graph t.form t.done h.whole h.safe c c.kind refl)

  after_later : (r : Reply) → Keep t.graph t.form t.done h.whole h.safe c r → Later t.form (after t c r).form
  after_later (no k) f = later_refl t.form
  after_later (ok n g s) f = f.later

  -- values stay, and what they are
  pub step_later : Later t.form (step t c).form
  step_later = after_later (reply t.graph t.form t.done c.x c.y c.z c.kind)
      (kept t.graph t.form t.done h.whole h.safe c c.kind refl)

pub run_later : (cs : List Call) (t : State) → Sure t → Later t.form (run t cs).form
run_later [] t h = later_refl t.form
run_later (c ∷ cs) t h = later_trans t.form (step t c).form (run (step t c) cs).form (step_later t c h) (run_later cs (step t c) (step_sure t c h))

pub run_sure : (cs : List Call) (t : State) → Sure t → Sure (run t cs)
run_sure [] t h = h
run_sure (c ∷ cs) t h = run_sure cs (step t c) (step_sure t c h)

pub empty_sure : Sure empty
empty_sure = record {
  whole = empty_good ⊥;
  safe = record {
    bounds = record {
      few = omega arith;
      vars = omega arith;
      typed = λ w l. absurd (not-suc-le-zero l);
      dests = λ p. omega arith;
      aims = λ p b i. absurd i;
      from = λ p b i. absurd i;
      branches = λ p e. absurd (false_true refl e);
      shut = λ b e. absurd (false_true refl e);
      marked = λ v e. absurd (false_true refl e);
    };
    ranged = record {
      valued = record { closed = λ x l. absurd (not-suc-le-zero l); homes = λ x l. absurd (not-suc-le-zero l); types = λ x l. absurd (not-suc-le-zero l) };
      recorded = record { entries = λ w b e q. absurd (some_none q refl); owns = λ w b e q. absurd (some_none q refl); passed = λ p i a k. absurd k };
      logs = record { noted = λ z i. absurd i; once = tt; within = λ b i. absurd i };
      caused = record { param_of = λ x l. absurd (not-suc-le-zero l); zero_of = λ z l. absurd (not-suc-le-zero l); step_before = λ z t l. absurd (not-suc-le-zero l) };
      still = λ b z. refl;
      unrecorded = λ x l. refl;
    };
    load =
        let k = all_le empty.form in
        let u = sum_most 0 (λ b. length (empty.form.pending b)) limits.blocks (λ _ _. omega arith) in
        record { values = omega (arith, k, u); zeros = omega (arith, k, u); made = omega arith };
  };
  count = refl;
  logged = λ z i. absurd i;
  answers = λ i x q. absurd (some_none q refl);
}

-- of every session
pub sure : (cs : List Call) → Sure (session cs)
sure cs = run_sure cs empty empty_sure

pub run_more : (cs ds : List Call) (t : State) → run t (cs ++ ds) ≡ run (run t cs) ds
run_more [] ds t = refl
run_more (c ∷ cs) ds t = run_more cs ds (step t c)

-- from any call on
pub from_then : (cs ds : List Call) → Later (session cs).form (session (cs ++ ds)).form
from_then cs ds = rw (run_more cs ds empty) (run_later ds (session cs) (sure cs))
