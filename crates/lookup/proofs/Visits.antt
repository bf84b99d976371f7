-- use_var_nonlocal: the blocks that the walk passed, up to the first meeting with where it stopped, are the way back, and none of them defines the
-- variable; the machine's visit is what find_var leaves with these blocks marked.
-- Assumes nothing.
use Prim.Native.Nat.{ℕ, suc, ◌≤◌, ◌<◌}
use mathlib.Core.Path.{◌≡◌, refl, sym, ap, ◌∙◌, subst}
use mathlib.Core.Logic.{◌≢◌, ◌⊎◌, inl, inr}
use mathlib.Core.Bool.{Bool, true, false, cond}
use mathlib.Core.Option.{Option, none, some}
use mathlib.Core.List.{List, [], ◌∷◌}
use native.Mathlib.Omega.{arith}
use native.Mathlib.Nat.{le_trans}
use lib.Dec.{eqb}
use lib.ListN.{length}
use Rattle.std.specs.Prelude.{Option as OptionOf, Some, None}
use Rattle.entity.specs.declared.Block.{Block}
use Rattle.entity.specs.declared.Value.{Value}
use Rattle.entity.specs.Limits.{limits, value_room}
use Rattle.entity.specs.Options.{value_of}
use Rattle.definition.specs.Base.{before}
use Rattle.definition.specs.Form.{Graph, Form, def}
use Rattle.definition.specs.Read.{Walk, mark, new_param}
use Rattle.meaning.specs.Path.{In}
use Rattle.meaning.specs.Machine.{Task, Conf, conf, open_param, find, visit}
use Rattle.meaning.proofs.Maps.{same?, eqb_same, eqb_diff, or_none, some_none}
use Rattle.meaning.proofs.Reading.{Trail, Walked}
use Rattle.meaning.proofs.Ranges.{mark_is}
use Rattle.meaning.proofs.Stored.{walk_room}
use Rattle.layout.specs.declared.Counts.{Counts}
use Rattle.layout.specs.Counts.{one_result}
use Rattle.layout.specs.Layout.{Stacks, Shown}
use Rattle.form.specs.Can.{Cells, HasDef}
use Rattle.work.specs.Work.{CanAnswer}
use Rattle.lookup.specs.Walk.{whole_walk, Chain, there, back, CanCopy}
use Rattle.lookup.specs.Find.{CanUse, CanFind, found, Finds, Visits}
use Rattle.lookup.proofs.Finds.{var_low, answer_can, walks}

-- ---- the blocks before a meeting

before_in : (e : ℕ) (l : List ℕ) (d : ℕ) → In d (before e l) → In d l
before_in e [] d i = i
before_in e (c ∷ l) d i = by (eqb c e) i (before_in e l d)
  where
    by : (z : Bool) → In d (cond z [] (c ∷ before e l)) → (In d (before e l) → In d l) → In d (c ∷ l)
    by true i below = absurd i
    by false (inl q) below = inl q
    by false (inr q) below = inr (below q)

before_length : (e : ℕ) (l : List ℕ) → length (before e l) ≤ length l
before_length e [] = omega arith
before_length e (c ∷ l) = by (eqb c e) (before_length e l)
  where
    by : (z : Bool) → length (before e l) ≤ length l → length (cond z [] (c ∷ before e l)) ≤ suc (length l)
    by true h = omega arith
    by false h = omega arith

before_all : (e : ℕ) (l : List ℕ) → (In e l → ⊥) → before e l ≡ l
before_all e [] n = refl
before_all e (c ∷ l) n = rw (eqb_diff c e (λ q. n (inl (sym q))), before_all e l (λ i. n (inr i)))

trail_chain : (g : Graph) (v : ℕ) (s : Form) (l : List ℕ) (b e : ℕ) → Trail g v s b l e → Chain g e (before e l) b
trail_chain g v s [] b e t = subst (λ (k : ℕ). Chain g e [] k) (sym t) there
trail_chain g v s (c ∷ l) b e t = subst (λ (k : ℕ). Chain g e (before e (c ∷ l)) k) (sym t.0) (by (same? c e) (trail_chain g v s l t.2.0 e t.2.2))
  where
    by : (c ≡ e) ⊎ (c ≢ e) → Chain g e (before e l) t.2.0 → Chain g e (before e (c ∷ l)) c
    by (inl q) rest = rw (q, eqb_same e) there
    by (inr n) rest = rw (eqb_diff c e n) (back n t.2.1 rest)

-- ---- find is find with nothing passed, and then the marks

module _ (g : Graph) (v : ℕ) (ts : List Task) (rs : List ℕ) (s : Form) (c : ℕ) where
  find_marked : (over : List ℕ) (m : Option ℕ) → ((x : ℕ) → m ≡ some x → before c over ≡ over) → (k : Conf) → k ≡ find g v ts rs s [] c m
      → find g v ts rs s over c m ≡ conf k.tasks k.results (mark v (found s m) (before c over) k.form)
  find_marked over (some x) h k e = rw (e, h x refl)
  find_marked over none h k e = rw e (by (g.sealed c))
    where
      by : (z : Bool) → open_param g v c s.next (before c over) ts rs (new_param g v c s) z
          ≡ conf (open_param g v c s.next [] ts rs (new_param g v c s) z).tasks (open_param g v c s.next [] ts rs (new_param g v c s) z).results
          (mark v s.next (before c over) (open_param g v c s.next [] ts rs (new_param g v c s) z).form)
      by true = refl
      by false = refl

  find_own : (m : Option ℕ) (w d : ℕ) → (find g v ts rs s [] c m).form.own w d ≡ s.own w d
  find_own (some x) w d = refl
  find_own none w d = by (g.sealed c)
    where
      by : (z : Bool) → (open_param g v c s.next [] ts rs (new_param g v c s) z).form.own w d ≡ s.own w d
      by true = refl
      by false = refl

-- ---- use_var_nonlocal

module _ {gl fl wl : List ℕ} {c : Counts} {v ty b : ℕ} {g : Graph} {s : Form} {ts : List Task} {rs : List ℕ} (h : CanUse gl fl wl c v ty b g s ts rs) where
  pub has_def : HasDef fl v b s
  has_def = record { cells = h.shows.cells; var = var_low h; known = le_trans h.known h.seen.bounds.few }

  pub visits_known : {x : OptionOf Value} {y : Value} → x ≡ Some y → ((s : Form) → HasDef fl v b s → value_of x ≡ def s v b) → {wl₁ : List ℕ} {r : Counts}
      → (r ≡ one_result c) × ((ts : List Task) → (rs : List ℕ) → CanAnswer wl c ts rs → Stacks wl₁ (one_result c) ts (y.0 ∷ rs))
      → Visits fl wl₁ c.call r v b g s ts rs
  visits_known {y = y} e reads {wl₁} {r} P =
      let m : def s v b ≡ some y.0 = sym (reads s has_def) ∙ ap value_of e in
      record {
        call = ap (λ (k : Counts). k.call) P.0;
        shown = subst (λ (o : Option ℕ). Shown fl wl₁ r (visit g v b ts rs s o)) (sym m)
            (subst (λ (k : Counts). Shown fl wl₁ k (conf ts (y.0 ∷ rs) s)) (sym P.0)
            (record { form = record { cells = h.shows.cells; next = h.shows.next }; work = P.1 ts rs (answer_can h) }));
      }

  module _ {x : OptionOf Value} (z : x ≡ None) (reads : (s : Form) → HasDef fl v b s → value_of x ≡ def s v b) where
    lacks_here : def s v b ≡ none
    lacks_here = sym (reads s has_def) ∙ ap value_of z

    pub find_can : CanFind gl fl wl c v ty b g s ts rs
    find_can = record { asks = h; lacks = lacks_here }

    abbrev W : Walk
    W = whole_walk g v b s

    abbrev K : Conf
    K = find g v ts rs s [] W.end W.met

    abbrev way : List ℕ
    way = before W.end W.passed

    U : Walked g v s b (whole_walk g v b s)
    U = walks find_can

    -- each block passed is one, and lacks v; they are no more than there are
    room : (length W.passed ≤ g.blocks) × ((d : ℕ) → In d W.passed → (d < g.blocks) × (def s v d ≡ none)) × (W.end < g.blocks)
    room = walk_room g h.seen.sound v s b h.known lacks_here (suc g.blocks)

    module _ {fl₁ wl₁ : List ℕ} {f : Value × Block × Counts} (F : Finds fl₁ wl₁ c.call f v b g s ts rs) where
      pub copy_can : CanCopy gl fl₁ v b f.1.0 g (find g v ts rs s [] (whole_walk g v b s).end (whole_walk g v b s).met).form (before (whole_walk g v b s).end (whole_walk g v b s).passed)
      copy_can = record {
        seen = h.seen;
        cells = F.shown.form.cells;
        var = var_low h;
        chain = subst (λ (k : ℕ). Chain g k way b) (sym F.from) (trail_chain g v s W.passed b W.end U.trail);
        few = omega (arith, before_length W.end W.passed, room.0, h.seen.bounds.few);
        bare = λ d i. find_own g v ts rs s W.end W.met v d ∙ (or_none (s.own v d) (s.entry v d) (room.1 d (before_in W.end W.passed d i)).1).0;
      }

      pub val_small : f.0.0 < value_room limits
      val_small = subst (λ (k : ℕ). k < value_room limits) (sym F.val) (by W.met U.met U.unmet)
        where
          by : (m : Option ℕ) → ((x : ℕ) → m ≡ some x → def s v W.end ≡ some x) → (m ≡ none → def s v W.end ≡ none) → found s m < value_room limits
          by (some x) y n = le_trans (h.ready.defs v W.end x (y x refl)) h.ready.few
          by none y n = (h.ready.opens W.end U.low (n refl)).next

      pub visits_found : {fl₂ : List ℕ}
          → ((g : Graph) → (s : Form) → (bs : List ℕ) → CanCopy gl fl₁ v b f.1.0 g s bs → Cells fl₂ (mark v f.0.0 bs s))
          → Visits fl₂ wl₁ c.call f.2 v b g s ts rs
      visits_found {fl₂} C =
          let whole = find_marked g v ts rs s W.end W.passed W.met
          (λ x e. before_all W.end W.passed (λ i. some_none (U.met x e) (room.1 W.end i).1)) K refl in
          record {
            call = F.call;
            shown = subst (λ (o : Option ℕ). Shown fl₂ wl₁ f.2 (visit g v b ts rs s o)) (sym lacks_here)
                (subst (λ (k : Conf). Shown fl₂ wl₁ f.2 k) (sym whole)
                (record {
                  form = record { cells = subst (λ (x : ℕ). Cells fl₂ (mark v x way K.form)) F.val (C g K.form way copy_can); next = F.shown.form.next ∙ sym (ap (λ (k : Form). k.next) (mark_is v (found s W.met) way K.form)) };
                  work = F.shown.work;
                }));
          }
