-- find_var: what holds at each of its calls, and what its three ways out leave. Where the walk stopped there is room for a parameter, since nothing is
-- recorded there, and the parameter made is the definition's.
-- Assumes nothing.
use Prim.Native.Nat.{ℕ, suc, ◌<◌}
use mathlib.Core.Path.{◌≡◌, sym, ap, ◌∙◌, subst}
use mathlib.Core.Bool.{Bool, true, false}
use mathlib.Core.Option.{Option, none, some}
use mathlib.Core.List.{List, [], ◌∷◌}
use native.Mathlib.Omega.{arith}
use native.Mathlib.Nat.{le_trans}
use Rattle.std.specs.Prelude.{Some, None}
use Rattle.entity.specs.declared.Block.{Block}
use Rattle.entity.specs.declared.Value.{Value}
use Rattle.entity.specs.Limits.{limits, value_room}
use Rattle.entity.specs.Options.{value_of}
use Rattle.entity.specs.Types.{type_count}
use Rattle.definition.specs.Base.{◌∷ʳ◌}
use Rattle.definition.specs.Form.{Graph, Form, Info, param, def}
use Rattle.definition.specs.Read.{make, set_params, mark_one, record_binding, new_param, wait}
use Rattle.meaning.specs.Machine.{Task, conf, schedule, open_param, find}
use Rattle.meaning.proofs.Maps.{put_same, or_none}
use Rattle.meaning.proofs.Reading.{Walked, walked}
use Rattle.layout.specs.declared.Counts.{Counts}
use Rattle.layout.specs.Counts.{more, one_result}
use Rattle.layout.specs.Layout.{Shows, Stacks, Shown}
use Rattle.graph.specs.Seen.{Seen}
use Rattle.form.specs.Can.{Cells, CanAppend, HasValue, HasDef, Recorded, CanWait}
use Rattle.work.specs.Work.{CanAnswer}
use Rattle.lookup.specs.declared.Stop.{Stop}
use Rattle.lookup.specs.Walk.{CanWalk, whole_walk, Stops}
use Rattle.lookup.specs.Find.{CanBegin, Open, CanUse, CanFind, found, Finds}

module _ {gl fl wl : List ℕ} {c : Counts} {v ty b : ℕ} {g : Graph} {s : Form} {ts : List Task} {rs : List ℕ} where
  module _ (h : CanUse gl fl wl c v ty b g s ts rs) where
    pub var_low : v < limits.variables
    var_low = le_trans h.var h.seen.bounds.vars

    pub walk_can : CanWalk gl fl v b g s
    walk_can = record { seen = h.seen; cells = h.shows.cells; var = var_low; known = h.known }

    pub answer_can : CanAnswer wl c ts rs
    answer_can = record { stacks = h.stacks; room = h.ready.results }

  module _ (h : CanFind gl fl wl c v ty b g s ts rs) where
    abbrev H : CanUse gl fl wl c v ty b g s ts rs
    H = h.asks

    pub walks : Walked g v s b (whole_walk g v b s)
    walks = walked g H.seen.sound v (suc g.blocks) s [] b H.known h.lacks

    module _ {stop : Stop} (S : Stops stop (whole_walk g v b s)) where
      abbrev blk : ℕ
      blk = stop.block.0

      pub block_low : blk < limits.blocks
      block_low = le_trans (subst (λ (k : ℕ). k < g.blocks) (sym S.block) walks.low) H.seen.bounds.few

      -- a definition was met
      pub finds_met : {y : Value} → stop.value ≡ Some y → {wl₁ : List ℕ} {r : Value × Block × Counts} → r.1.0 ≡ blk → r.0.0 ≡ y.0
          → (r.2 ≡ one_result c) × ((ts : List Task) → (rs : List ℕ) → CanAnswer wl c ts rs → Stacks wl₁ (one_result c) ts (y.0 ∷ rs))
          → Finds fl wl₁ c.call r v b g s ts rs
      finds_met {y} e {wl₁} {r} ef ev P =
          let m : (whole_walk g v b s).met ≡ some y.0 = sym S.value ∙ ap value_of e in
          record {
            from = ef ∙ S.block;
            val = ev ∙ ap (found s) (sym m);
            call = ap (λ (k : Counts). k.call) P.0;
            shown = subst (λ (o : Option ℕ). Shown fl wl₁ r.2 (find g v ts rs s [] (whole_walk g v b s).end o)) (sym m)
                (subst (λ (k : Counts). Shown fl wl₁ k (conf ts (y.0 ∷ rs) s)) (sym P.0)
                (record { form = record { cells = H.shows.cells; next = H.shows.next }; work = P.1 ts rs (answer_can H) }));
          }

      -- nothing was met
      module _ (z : stop.value ≡ None) where
        none_met : (whole_walk g v b s).met ≡ none
        none_met = sym S.value ∙ ap value_of z

        lacks_there : def s v blk ≡ none
        lacks_there = subst (λ (k : ℕ). def s v k ≡ none) (sym S.block) (walks.unmet none_met)

        open_there : Open g s ts blk
        open_there = H.ready.opens blk (subst (λ (k : ℕ). k < g.blocks) (sym S.block) walks.low) lacks_there

        pub append_can : CanAppend fl c blk s
        append_can = record { make = record { shows = H.shows; room = open_there.next; fresh = H.ready.fresh; unrecorded = H.ready.unrecorded }; known = block_low; row = open_there.params }

        pub value_small : c.values < value_room limits
        value_small = omega (arith, H.shows.next, open_there.next)

        abbrev appended : ℕ → Form
        appended t = set_params blk (s.params blk ∷ʳ s.next) (make param t blk s)

        module _ {fl₁ : List ℕ} {d : Counts} (A : (d ≡ more c) × ((s : Form) → CanAppend fl c blk s
            → Shows fl₁ (more c) (set_params blk (s.params blk ∷ʳ s.next) (make param ty blk s)))) where
          pub record_has : HasDef fl₁ v blk (set_params blk (s.params blk ∷ʳ s.next) (make param ty blk s))
          record_has = record { cells = (A.1 s append_can).cells; var = var_low H; known = block_low }

          stacked : Stacks wl d ts rs
          stacked = rw A.0 (record { cells = H.stacks.cells; calls = H.stacks.calls; results = H.stacks.results })

          counted : d.values ≡ suc s.next
          counted = rw A.0 (omega (arith, H.shows.next))

          pub begin_can : CanBegin gl wl d c.values blk g ts rs
          begin_can = record { seen = H.seen; stacks = stacked; known = block_low; small = value_small; room = open_there.calls }

          pub answer_can_after : CanAnswer wl d ts rs
          answer_can_after = record { stacks = stacked; room = H.ready.results }

          module _ {fl₂ : List ℕ} (R : Recorded fl₁ fl₂ v blk c.values) where
            pub binding_has : HasValue fl₂ c.values (mark_one v c.values blk (set_params blk (s.params blk ∷ʳ s.next) (make param ty blk s)))
            binding_has = record {
              cells = R.entry (appended ty) record_has (or_none (s.own v blk) (s.entry v blk) lacks_there).0;
              there = omega (arith, H.shows.next);
              room = open_there.next;
            }

            typed : ((appended ty).info c.values).type < type_count
            typed =
                let new : Info = record { sort = param; type = ty; home = blk } in
                let e : ((appended ty).info c.values).type ≡ ty = ap (λ (x : ℕ). ((appended ty).info x).type) H.shows.next ∙ ap (λ (i : Info). i.type) (put_same s.next new s.info) in
                omega (arith, e, H.type, H.seen.bounds.typed v H.var)

          module _ {fl₂ : List ℕ} (R : Recorded fl₁ fl₂ v blk c.values) {m : Bool} (M : (g : Graph) → Seen gl g → m ≡ g.marks v) {fl₃ : List ℕ}
              (K : (g : Graph) → (v : ℕ) → m ≡ g.marks v → (s : Form) → HasValue fl₂ c.values s → (s.info c.values).type < type_count
              → Cells fl₃ (record_binding g v c.values s)) where
            made : Cells fl₃ (new_param g v blk s)
            made =
                subst (λ (t : ℕ). Cells fl₃ (record_binding g v s.next (mark_one v s.next blk (appended t)))) H.type
                (subst (λ (x : ℕ). Cells fl₃ (record_binding g v x (mark_one v x blk (appended ty)))) H.shows.next
                (K g v (M g H.seen) (mark_one v c.values blk (appended ty)) (binding_has R) (typed R)))

            pub wait_can : CanWait fl₃ blk (new_param g v blk s)
            wait_can = record { cells = made; known = block_low; row = open_there.waits }

            finds_none : {fl₄ wl₁ : List ℕ} {r : Value × Block × Counts} {q : Bool} → ((g : Graph) → Seen gl g → q ≡ g.sealed blk) → r.1.0 ≡ blk → r.0.0 ≡ c.values → r.2.call ≡ d.call
                → Shown fl₄ wl₁ r.2 (open_param g v blk s.next [] ts rs (new_param g v blk s) q) → Finds fl₄ wl₁ c.call r v b g s ts rs
            finds_none {fl₄} {wl₁} {r} shut ef ev ec sh = record {
              from = ef ∙ S.block;
              val = ev ∙ H.shows.next ∙ ap (found s) (sym none_met);
              call = ec ∙ ap (λ (k : Counts). k.call) A.0;
              shown = subst (λ (o : Option ℕ). Shown fl₄ wl₁ r.2 (find g v ts rs s [] (whole_walk g v b s).end o)) (sym none_met)
                  (subst (λ (k : ℕ). Shown fl₄ wl₁ r.2 (open_param g v k s.next [] ts rs (new_param g v k s) (g.sealed k))) S.block
                  (subst (λ (y : Bool). Shown fl₄ wl₁ r.2 (open_param g v blk s.next [] ts rs (new_param g v blk s) y)) (shut g H.seen) sh));
            }

            module _ {q : Bool} (shut : (g : Graph) → Seen gl g → q ≡ g.sealed blk) where
              pub finds_sealed : q ≡ true → {wl₁ : List ℕ} {r : Value × Block × Counts} → r.1.0 ≡ blk → r.0.0 ≡ c.values
                  → (r.2.values ≡ d.values) × (r.2.call ≡ d.call)
                  × ((g : Graph) → (ts : List Task) → (rs : List ℕ) → CanBegin gl wl d c.values blk g ts rs → Stacks wl₁ r.2 (schedule g c.values blk ts) rs)
                  → Finds fl₃ wl₁ c.call r v b g s ts rs
              finds_sealed e {wl₁} {r} ef ev B = finds_none shut ef ev B.1
                  (rw e (record {
                    form = record { cells = made; next = B.0 ∙ counted };
                    work = subst (λ (x : ℕ). Stacks wl₁ r.2 (schedule g x blk ts) rs) H.shows.next (B.2 g ts rs begin_can);
                  }))

              pub finds_open : q ≡ false → {fl₄ wl₁ : List ℕ} {r : Value × Block × Counts} → r.1.0 ≡ blk → r.0.0 ≡ c.values
                  → ((s : Form) → CanWait fl₃ blk s → (x : ℕ) → Cells fl₄ (wait v blk x s))
                  → (r.2 ≡ one_result d) × ((ts : List Task) → (rs : List ℕ) → CanAnswer wl d ts rs → Stacks wl₁ (one_result d) ts (c.values ∷ rs))
                  → Finds fl₄ wl₁ c.call r v b g s ts rs
              finds_open e {fl₄} {wl₁} {r} ef ev Q P = finds_none shut ef ev (ap (λ (k : Counts). k.call) P.0)
                  (rw e (subst (λ (k : Counts). Shown fl₄ wl₁ k (conf ts (s.next ∷ rs) (wait v blk s.next (new_param g v blk s)))) (sym P.0)
                  (record {
                    form = record { cells = Q (new_param g v blk s) wait_can s.next; next = counted };
                    work = subst (λ (x : ℕ). Stacks wl₁ (one_result d) ts (x ∷ rs)) H.shows.next (P.1 ts rs answer_can_after);
                  })))
