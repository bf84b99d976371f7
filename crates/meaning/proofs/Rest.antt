-- Before and after each use and each seal the form is at rest: each is a run of the machine or several, and every turn keeps what a run starts with. Assumes
-- nothing.
pub use Rattle.meaning.proofs.Mid.{Rest}
use Prim.Native.Nat.{ℕ, zero, suc, ◌+◌, ◌<◌}
use mathlib.Core.Path.{◌≡◌, refl, sym, ◌∙◌, subst}
use mathlib.Core.Logic.{inl, inr}
use mathlib.Core.Bool.{Bool, true, false}
use mathlib.Core.Option.{some}
use mathlib.Core.List.{List, [], ◌∷◌, ◌++◌}
use lib.ListN.{length}
use native.Mathlib.Omega.{arith}
use native.Mathlib.Nat.{le_trans}
use Rattle.definition.specs.Base.{put, up_from}
use Rattle.definition.specs.Form.{Graph, Form}
use Rattle.definition.specs.Read.{set_pending, fill, read, depth, settle_pending}
use Rattle.definition.specs.Session.{mark_sealed, seal_form, seal_each}
use Rattle.meaning.specs.Machine.{finish, conf, schedule}
use Rattle.meaning.specs.Path.{In}
use Rattle.meaning.proofs.Maps.{same?, put_same, put_other, put_at, put_id, put_put}
use Rattle.meaning.proofs.Reading.{Sound, reads}
use Rattle.meaning.proofs.Sealing.{idle, shallow, sealed_one, marked_inv}
use Rattle.meaning.proofs.Machine.{does, fills}
use Rattle.meaning.proofs.Load.{waiting_put}
use Rattle.meaning.proofs.Ranges.{Bounds}
use Rattle.meaning.proofs.Lacking.{all_fewer}
use Rattle.meaning.proofs.Mid.{Now, looks_on, goes_now}
use Rattle.meaning.proofs.Inv.{Work, frame, Later, later_refl, later_trans, later_grow}

module _ (g : Graph) (G : Sound g) (B : Bounds g) where
  -- the parameter at work is known
  pub at_head : (b : ℕ) → g.sealed b ≡ true → (w : ℕ × ℕ) (ws : List (ℕ × ℕ)) (k : ℕ) (s : Form) → Rest g (put b (w ∷ ws) idle) k s
      → s.entry w.0 b ≡ some w.1
  at_head b seal w ws k s h = (h.inv.pend w.0 b w.1 (rw (seal, put_same b (w ∷ ws) idle) (inl refl))).0

  pub seal_start : (b : ℕ) → g.sealed b ≡ true → (w : ℕ × ℕ) (ws : List (ℕ × ℕ)) (s : Form)
      → Rest g (put b (w ∷ ws) idle) (suc (length ws)) s
      → Now g w.0 (put b ws idle) (length ws) (conf (schedule g w.1 b []) [] s)
  seal_start b seal w ws s h = (
    looks_on g w.0 (put b ws idle) (length ws) (g.preds b) (finish w.1 b ∷ []) 0 s (λ p i. G.range b p i) (record {
      rest = subst (λ (f : Work). Rest g f (suc (length ws)) s) same_work h;
      busy = λ c e. elim (same? c b) [
        | inl q ↦ inr (w.1, rw q (at_head b seal w ws (suc (length ws)) s h))
        | inr n ↦ inl (put_other b (w ∷ put b ws idle b) (put b ws idle) c n ∙ put_other b ws idle c n)
      ];
      sane = (seal, tt);
      fits = (0, refl, tt);
    }),
    λ r i. absurd i,
  )
    where
      same_work : put b (w ∷ ws) idle ≡ put b (w ∷ put b ws idle b) (put b ws idle)
      same_work = rw (put_same b ws idle, put_put b (w ∷ ws) ws idle)

  -- a use
  pub read_rest : (v : ℕ) (lv : v < length g.types) (b : ℕ) (s : Form) → b < g.blocks → Rest g idle 0 s
      → Rest g idle 0 (read (depth g) g v b s).1 × ((read (depth g) g v b s).0 < (read (depth g) g v b s).1.next)
      × Later s (read (depth g) g v b s).1
  read_rest v lv b s lb h =
      let e = goes_now g G B v lv idle 0 (does g G v (depth g) b s lb (shallow v s g) [] [])
      (record { rest = h; busy = λ c z. inl refl; sane = (lb, tt); fits = tt }, λ r i. absurd i) in (
        e.0.rest,
        e.1 _ (inl refl),
        later_grow s (read (depth g) g v b s).1
            (reads g G v lv (frame ⊥ h.caller) (depth g) b s h.kp idle lb h.inv (λ c z. inl refl) (shallow v s g)).grow,
      )

  -- the first pending variable
  pub next_rest : (b : ℕ) → g.sealed b ≡ true → (w : ℕ × ℕ) (ws : List (ℕ × ℕ)) (s : Form)
      → Rest g (put b (w ∷ ws) idle) (suc (length ws)) s
      → Rest g (put b ws idle) (length ws) (fill (read (depth g) g w.0) g b w.1 s).1
  next_rest b seal w ws s h =
      let lv = (h.inv.known w.0 b w.1 (at_head b seal w ws (suc (length ws)) s h)).0 in
      (goes_now g G B w.0 lv (put b ws idle) (length ws) (fills g G w.0 (depth g) b w.1 s (shallow w.0 s g) [] []) (seal_start b seal w ws s h)).0.rest

  -- some of the pending variables, where others are left
  pub some_rest : (b : ℕ) → g.sealed b ≡ true → (us ws : List (ℕ × ℕ)) (s : Form) → Rest g (put b (us ++ ws) idle) (length (us ++ ws)) s
      → Rest g (put b ws idle) (length ws) (settle_pending g b us s)
  some_rest b seal [] ws s h = h
  some_rest b seal (w ∷ us) ws s h = some_rest b seal us ws (fill (read (depth g) g w.0) g b w.1 s).1 (next_rest b seal w (us ++ ws) s h)

  -- all of them
  pub pending_rest : (b : ℕ) → g.sealed b ≡ true → (ws : List (ℕ × ℕ)) (s : Form) → Rest g (put b ws idle) (length ws) s
      → Rest g idle 0 (settle_pending g b ws s)
  pending_rest b seal [] s h = subst (λ (f : Work). Rest g f 0 s) (put_id b idle) h
  pending_rest b seal (w ∷ ws) s h = pending_rest b seal ws (fill (read (depth g) g w.0) g b w.1 s).1 (next_rest b seal w ws s h)

-- a seal
module _ (g : Graph) (G : Sound g) (B : Bounds g) (b : ℕ) (lb : b < g.blocks) (unsealed : g.sealed b ≡ false) where
  pub bounds_sealed : Bounds (mark_sealed g b)
  bounds_sealed = record {
    few = B.few;
    vars = B.vars;
    typed = B.typed;
    dests = B.dests;
    aims = B.aims;
    from = B.from;
    branches = B.branches;
    shut = λ c z. elim (same? c b) [ inl q ↦ rw q lb | inr n ↦ B.shut c (sym (put_other b true g.sealed c n) ∙ z) ];
    marked = B.marked;
  }

  -- the mark alone: what waited is at work
  pub mark_rest : (s : Form) → Rest g idle 0 s → Rest (mark_sealed g b) (put b (s.pending b) idle) (length (s.pending b)) (set_pending b [] s)
  mark_rest s h = record {
    caller = h.caller;
    kp = h.kp;
    inv = marked_inv g (frame ⊥ h.caller) s h.kp h.inv b unsealed;
    ranged = record {
      valued = h.ranged.valued;
      recorded = h.ranged.recorded;
      logs = h.ranged.logs;
      caused = h.ranged.caused;
      still = λ c z. elim (same? c b) [
        | inl q ↦ put_at b [] s.pending c q
        | inr n ↦ put_other b [] s.pending c n ∙ h.ranged.still c (sym (put_other b true g.sealed c n) ∙ z)
      ];
      unrecorded = h.ranged.unrecorded;
    };
    load =
        let w = waiting_put s.pending b [] (le_trans lb B.few) in
        let f = all_fewer s (set_pending b [] s) (λ w c o. o) in
        record { values = omega (arith, h.load.values, w, f); zeros = omega (arith, h.load.zeros, w, f); made = h.load.made };
  }

  pub seal_rest : (s : Form) → Rest g idle 0 s → Rest (mark_sealed g b) idle 0 (seal_form g s b) × Later s (seal_form g s b)
  seal_rest s h = (
    pending_rest (mark_sealed g b) G bounds_sealed b (put_same b true g.sealed) (s.pending b) (set_pending b [] s) (mark_rest s h),
    later_grow s (seal_form g s b) (sealed_one g (frame ⊥ h.caller) s h.kp h.inv b unsealed G).grow,
  )

-- all blocks
pub record AllRest (s : Form) (k : ℕ) (r : Graph × Form) : Type 0 where
  pub calls : r.0.call ≡ k
  pub sound : Sound r.0
  pub bounds : Bounds r.0
  pub rest : Rest r.0 idle 0 r.1
  pub later : Later s r.1

pub each_rest : (bs : List ℕ) (g : Graph) (s : Form) → ((b : ℕ) → In b bs → b < g.blocks) → Sound g → Bounds g → Rest g idle 0 s
    → AllRest s g.call (seal_each bs g s)
each_rest [] g s lt G B h = record { calls = refl; sound = G; bounds = B; rest = h; later = later_refl s }
each_rest (b ∷ bs) g s lt G B h = by (g.sealed b) refl (each_rest bs g s (λ c i. lt c (inr i)) G B h)
    (λ e. each_rest bs (mark_sealed g b) (seal_form g s b) (λ c i. lt c (inr i)) G (bounds_sealed g G B b (lt b (inl refl)) e) (seal_rest g G B b (lt b (inl refl)) e s h).0)
  where
    by : (z : Bool) → g.sealed b ≡ z → AllRest s g.call (seal_each bs g s)
        → (g.sealed b ≡ false → AllRest (seal_form g s b) g.call (seal_each bs (mark_sealed g b) (seal_form g s b)))
        → AllRest s g.call
        (elim z as (λ _. Graph × Form) [ true ↦ seal_each bs g s | false ↦ seal_each bs (mark_sealed g b) (seal_form g s b) ])
    by true e was go_on = was
    by false e was go_on = let k = go_on e in record {
      calls = k.calls;
      sound = k.sound;
      bounds = k.bounds;
      rest = k.rest;
      later = later_trans s (seal_form g s b) (seal_each bs (mark_sealed g b) (seal_form g s b)).1 (seal_rest g G B b (lt b (inl refl)) e s h).1 k.later;
    }

pub up_below : (n i b : ℕ) → In b (up_from i n) → b < i + n
up_below zero i b h = absurd h
up_below (suc n) i b (inl e) = omega (arith, e)
up_below (suc n) i b (inr h) = let k = up_below n (suc i) b h in omega (arith, k)
