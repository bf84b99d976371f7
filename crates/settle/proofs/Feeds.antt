-- Arguments appended one destination after the other, and one predecessor after the other: what was done so far is feeding the first of them.
-- Assumes nothing.
use Rattle.std.specs.Prelude.{if◌then◌else◌}
use Prim.Native.Nat.{ℕ, zero, suc, ◌+◌, ◌≤◌, ◌<◌}
use mathlib.Core.Path.{◌≡◌, refl, sym, ap, ◌∙◌, subst, fun_ext}
use mathlib.Core.Logic.{◌≢◌, ◌⊎◌, inl, inr}
use mathlib.Core.Bool.{Bool, true, false, ◌&&◌}
use mathlib.Core.List.{List, [], ◌∷◌, ◌++◌}
use native.Mathlib.Omega.{arith}
use native.Mathlib.Numerals.{add-one}
use lib.ListN.{length, get_or, take, drop}
use lib.Seq.{take_all, take-suc, length-take-le, split_at}
use Rattle.definition.specs.Base.{◌=?◌, put₂, ◌∷ʳ◌}
use Rattle.definition.specs.Form.{Graph, Form, with_args}
use Rattle.definition.specs.Read.{is_dest, feed, feed_all}
use Rattle.meaning.specs.Path.{In}
use Rattle.meaning.specs.Stored.{Nodup}
use Rattle.meaning.specs.Machine.{Task}
use Rattle.meaning.proofs.Lists.{getD_in, nodup_apart}
use Rattle.meaning.proofs.Maps.{same?, bool?, here?, put₂_at, put₂_other}
use Rattle.meaning.proofs.Keeping.{dest_yes, dest_is, feed_here, feed_else, all_else}
use Rattle.layout.specs.declared.Counts.{Counts}
use Rattle.graph.specs.Seen.{Seen}
use Rattle.form.specs.Can.{Cells, CanFeed}
use Rattle.work.specs.Work.{CanTake, lasts}
use Rattle.settle.specs.Settle.{CanFeedBranch, CanFeedAll}
use Rattle.settle.proofs.Judges.{lasts_length}

-- ---- the destinations in turn

-- the destination at k counts from k + 1 on
dest_not_yet : (ds : List ℕ) (k b : ℕ) → is_dest (take k ds) k b ≡ false
dest_not_yet [] zero b = refl
dest_not_yet [] (suc k) b = refl
dest_not_yet (d ∷ ds) zero b = refl
dest_not_yet (d ∷ ds) (suc k) b = dest_not_yet ds k b

dest_now : (ds : List ℕ) (k b : ℕ) → is_dest (take (suc k) ds) k b ≡ is_dest ds k b
dest_now [] k b = refl
dest_now (d ∷ ds) zero b = refl
dest_now (d ∷ ds) (suc k) b = dest_now ds k b

dest_still : (ds : List ℕ) (k i b : ℕ) → i ≢ k → is_dest (take (suc k) ds) i b ≡ is_dest (take k ds) i b
dest_still [] zero i b n = refl
dest_still [] (suc k) i b n = refl
dest_still (d ∷ ds) zero zero b n = absurd (n refl)
dest_still (d ∷ ds) zero (suc i) b n = refl
dest_still (d ∷ ds) (suc k) zero b n = refl
dest_still (d ∷ ds) (suc k) (suc i) b n = dest_still ds k i b (λ e. n (ap suc e))

module _ (p b x : ℕ) (ds : List ℕ) (us : ℕ → ℕ → List ℕ) where
  -- with the first k destinations
  abbrev fed : ℕ → ℕ → ℕ → List ℕ
  fed k = feed p b x (take k ds) us

  none_fed : fed 0 ≡ us
  none_fed = fun_ext (λ q. fun_ext (λ i. feed_else p b x q i [] us (λ e. refl)))

  all_fed : (k : ℕ) → length ds ≤ k → fed k ≡ feed p b x ds us
  all_fed k le = ap (λ (l : List ℕ). feed p b x l us) (take_all k ds le)

  module _ (k : ℕ) where
    not_yet_fed : fed k p k ≡ us p k
    not_yet_fed = feed_else p b x p k (take k ds) us (λ e. dest_not_yet ds k b)

    still_fed : (q i : ℕ) → (q ≡ p → i ≡ k → ⊥) → fed (suc k) q i ≡ fed k q i
    still_fed q i n = by (same? q p)
      where
        by : (q ≡ p) ⊎ (q ≢ p) → fed (suc k) q i ≡ fed k q i
        by (inl e) = ap (λ (z : Bool). if q =? p && z then us q i ∷ʳ x else us q i) (dest_still ds k i b (n e))
        by (inr d) = feed_else p b x q i (take (suc k) ds) us (λ e. absurd (d e)) ∙ sym (feed_else p b x q i (take k ds) us (λ e. absurd (d e)))

    fed_here : is_dest ds k b ≡ true → put₂ p k (fed k p k ∷ʳ x) (fed k) ≡ fed (suc k)
    fed_here on = fun_ext (λ q. fun_ext (λ i. by q i (here? q p i k)))
      where
        by : (q i : ℕ) → ((q ≡ p) × (i ≡ k)) ⊎ (q ≡ p → i ≡ k → ⊥) → put₂ p k (fed k p k ∷ʳ x) (fed k) q i ≡ fed (suc k) q i
        by q i (inl e) =
            put₂_at p k (fed k p k ∷ʳ x) (fed k) q i e.0 e.1 ∙ ap (λ (l : List ℕ). l ∷ʳ x) not_yet_fed
            ∙ rw (e.0, e.1) (sym (feed_here p b x k (take (suc k) ds) us (dest_now ds k b ∙ on)))
        by q i (inr n) = put₂_other p k (fed k p k ∷ʳ x) (fed k) q i n ∙ sym (still_fed q i n)

    passed_by : is_dest ds k b ≡ false → fed k ≡ fed (suc k)
    passed_by off = fun_ext (λ q. fun_ext (λ i. by q i (here? q p i k)))
      where
        by : (q i : ℕ) → ((q ≡ p) × (i ≡ k)) ⊎ (q ≡ p → i ≡ k → ⊥) → fed k q i ≡ fed (suc k) q i
        by q i (inl e) = rw (e.0, e.1) (not_yet_fed ∙ sym (feed_else p b x p k (take (suc k) ds) us (λ _. dest_now ds k b ∙ off)))
        by q i (inr n) = sym (still_fed q i n)

module _ (gl l₀ : List ℕ) (p b x : ℕ) where
  -- whatever the cells showed
  abbrev pub Feeding : List ℕ → ℕ → Type 0
  Feeding l k = (g : Graph) (s : Form) → CanFeedBranch gl l₀ p b g s → Cells l (with_args s (feed p b x (take k (g.dests p)) s.args))

  pub feed_start : Feeding l₀ 0
  feed_start g s h = subst (λ (us : ℕ → ℕ → List ℕ). Cells l₀ (with_args s us)) (sym (none_fed p b x (g.dests p) s.args)) h.cells

  module _ (l : List ℕ) (k : ℕ) (F : Feeding l k) where
    pub feed_end : (g : Graph) (s : Form) → CanFeedBranch gl l₀ p b g s → length (g.dests p) ≤ k → Cells l (with_args s (feed p b x (g.dests p) s.args))
    feed_end g s h le = subst (λ (us : ℕ → ℕ → List ℕ). Cells l (with_args s us)) (all_fed p b x (g.dests p) s.args k le) (F g s h)

    module _ (d : ℕ) (D : (g : Graph) → Seen gl g → d ≡ get_or (g.dests p) k 0) where
      pub feed_skip : (d ≡ b → ⊥) → Feeding l (k + 1)
      feed_skip n g s h =
          let off : is_dest (g.dests p) k b ≡ false = elim (bool? (is_dest (g.dests p) k b)) [
            | inl e ↦ absurd (n (D g h.seen ∙ (dest_is (g.dests p) k b e).1))
            | inr e ↦ e
          ] in
          rw add-one (subst (λ (us : ℕ → ℕ → List ℕ). Cells l (with_args s us)) (passed_by p b x (g.dests p) s.args k off) (F g s h))

      module _ (on : d ≡ b) where
        module _ (g : Graph) (s : Form) (h : CanFeedBranch gl l₀ p b g s) (lt : k < length (g.dests p)) where
          here : is_dest (g.dests p) k b ≡ true
          here = dest_yes (g.dests p) k b lt (sym (D g h.seen) ∙ on)

          pub feed_room : CanFeed l p k (with_args s (feed p b x (take k (g.dests p)) s.args))
          feed_room = record {
            cells = F g s h;
            branch = h.branch;
            place = omega (arith, h.seen.bounds.dests p);
            row = rw (not_yet_fed p b x (g.dests p) s.args k) (h.rows k here);
          }

        pub feed_more : (l₁ : List ℕ) → ((s : Form) → CanFeed l p k s → Cells l₁ (with_args s (put₂ p k (s.args p k ∷ʳ x) s.args)))
            → ((g : Graph) → Seen gl g → k < length (g.dests p)) → Feeding l₁ (k + 1)
        feed_more l₁ A lt g s h =
            rw add-one
            (subst (λ (us : ℕ → ℕ → List ℕ). Cells l₁ (with_args s us)) (fed_here p b x (g.dests p) s.args k (here g s h (lt g h.seen)))
            (A (with_args s (feed p b x (take k (g.dests p)) s.args)) (feed_room g s h (lt g h.seen))))

-- ---- the predecessors in turn

module _ (g : Graph) (b : ℕ) where
  feed_last : (ps rs : List ℕ) (p r : ℕ) (us : ℕ → ℕ → List ℕ) → length rs ≡ length ps
      → feed_all g b (ps ∷ʳ p) (rs ∷ʳ r) us ≡ feed p b r (g.dests p) (feed_all g b ps rs us)
  feed_last [] [] p r us e = refl
  feed_last [] (t ∷ rs) p r us e = absurd (omega (arith, e))
  feed_last (q ∷ ps) [] p r us e = absurd (omega (arith, e))
  feed_last (q ∷ ps) (t ∷ rs) p r us e = feed_last ps rs p r (feed q b t (g.dests q) us) (omega (arith, e))

  module _ (ps rs : List ℕ) (us : ℕ → ℕ → List ℕ) where
    -- by the first k predecessors
    abbrev fed_by : ℕ → ℕ → ℕ → List ℕ
    fed_by k = feed_all g b (take k ps) (take k rs) us

    module _ (len : length rs ≡ length ps) (k : ℕ) where
      fed_by_all : length ps ≤ k → fed_by k ≡ feed_all g b ps rs us
      fed_by_all le = ap (λ (l : List ℕ). feed_all g b l (take k rs) us) (take_all k ps le) ∙ ap (λ (l : List ℕ). feed_all g b ps l us) (take_all k rs (omega arith))

      module _ (lt : k < length ps) where
        fed_by_next : feed (get_or ps k 0) b (get_or rs k 0) (g.dests (get_or ps k 0)) (fed_by k) ≡ fed_by (suc k)
        fed_by_next =
            sym
            (ap (λ (l : List ℕ). feed_all g b l (take (suc k) rs) us) (take-suc ps k 0 lt) ∙ ap (λ (l : List ℕ). feed_all g b (take k ps ∷ʳ get_or ps k 0) l us) (take-suc rs k 0 (omega arith))
            ∙ feed_last (take k ps) (take k rs) (get_or ps k 0) (get_or rs k 0) us (length-take-le k rs (omega arith) ∙ sym (length-take-le k ps (omega arith))))

        not_yet_fed_by : Nodup ps → (i : ℕ) → fed_by k (get_or ps k 0) i ≡ us (get_or ps k 0) i
        not_yet_fed_by n i =
            let parts : Nodup (take k ps ++ get_or ps k 0 ∷ drop (suc k) ps) = subst Nodup (split_at ps k 0 lt) n in
            all_else g b (take k ps) (take k rs) us (get_or ps k 0) i (λ j. absurd (nodup_apart (take k ps) (get_or ps k 0 ∷ drop (suc k) ps) (get_or ps k 0) parts j (inl refl)))

module _ (gl l₀ wl : List ℕ) (c : Counts) (b : ℕ) where
  -- whatever the cells showed
  abbrev pub FeedingAll : List ℕ → ℕ → Type 0
  FeedingAll l k = (g : Graph) (s : Form) (ts : List Task) (rs : List ℕ) → CanFeedAll gl l₀ wl c b g s ts rs
      → Cells l (with_args s (feed_all g b (take k (g.preds b)) (take k (lasts (length (g.preds b)) rs)) s.args))

  module _ (g : Graph) (s : Form) (ts : List Task) (rs : List ℕ) (h : CanFeedAll gl l₀ wl c b g s ts rs) where
    pub result_each : (n : ℕ) → n ≡ length (g.preds b) → CanTake wl c n ts rs
    result_each n e = rw e h.results

    paired : length (lasts (length (g.preds b)) rs) ≡ length (g.preds b)
    paired = lasts_length (length (g.preds b)) rs h.results.enough

  module _ (l : List ℕ) (k : ℕ) (F : FeedingAll l k) where
    pub feed_all_end : (g : Graph) (s : Form) (ts : List Task) (rs : List ℕ) → CanFeedAll gl l₀ wl c b g s ts rs → length (g.preds b) ≤ k
        → Cells l (with_args s (feed_all g b (g.preds b) (lasts (length (g.preds b)) rs) s.args))
    feed_all_end g s ts rs h le =
        subst (λ (us : ℕ → ℕ → List ℕ). Cells l (with_args s us)) (fed_by_all g b (g.preds b) (lasts (length (g.preds b)) rs) s.args (paired g s ts rs h) k le) (F g s ts rs h)

    module _ (n p r : ℕ) (lt : k < n) (N : (g : Graph) → Seen gl g → n ≡ length (g.preds b)) (P : (g : Graph) → Seen gl g → p ≡ get_or (g.preds b) k 0)
        (R : (ts : List Task) (rs : List ℕ) → CanTake wl c n ts rs → r ≡ get_or (lasts n rs) k 0) where
      module _ (g : Graph) (s : Form) (ts : List Task) (rs : List ℕ) (h : CanFeedAll gl l₀ wl c b g s ts rs) where
        inside : k < length (g.preds b)
        inside = omega (arith, N g h.seen)

        r_is : r ≡ get_or (lasts (length (g.preds b)) rs) k 0
        r_is = R ts rs (result_each g s ts rs h n (N g h.seen)) ∙ ap (λ (m : ℕ). get_or (lasts m rs) k 0) (N g h.seen)

        in_preds : In p (g.preds b)
        in_preds = rw (P g h.seen) (getD_in (g.preds b) k inside)

        untouched : (i : ℕ) → feed_all g b (take k (g.preds b)) (take k (lasts (length (g.preds b)) rs)) s.args p i ≡ s.args p i
        untouched i =
            rw (P g h.seen)
            (not_yet_fed_by g b (g.preds b) (lasts (length (g.preds b)) rs) s.args (paired g s ts rs h) k inside (h.seen.sound.nodup b) i)

        pub branch_room : CanFeedBranch gl l p b g (with_args s (feed_all g b (take k (g.preds b)) (take k (lasts (length (g.preds b)) rs)) s.args))
        branch_room = record {
          seen = h.seen;
          cells = F g s ts rs h;
          branch = omega (arith, h.seen.sound.range b p in_preds, h.seen.bounds.few);
          rows = λ i on. rw (untouched i) (h.rows p in_preds i on);
        }

      pub feed_all_next : (l₁ : List ℕ) → ((g : Graph) (s : Form) → CanFeedBranch gl l p b g s → Cells l₁ (with_args s (feed p b r (g.dests p) s.args))) → FeedingAll l₁ (k + 1)
      feed_all_next l₁ A g s ts rs h =
          let us = feed_all g b (take k (g.preds b)) (take k (lasts (length (g.preds b)) rs)) s.args in
          let next : feed p b r (g.dests p) us ≡ feed_all g b (take (suc k) (g.preds b)) (take (suc k) (lasts (length (g.preds b)) rs)) s.args =
          rw (P g h.seen, r_is g s ts rs h) (fed_by_next g b (g.preds b) (lasts (length (g.preds b)) rs) s.args (paired g s ts rs h) k (inside g s ts rs h)) in
          rw add-one (subst (λ (vs : ℕ → ℕ → List ℕ). Cells l₁ (with_args s vs)) next (A g (with_args s us) (branch_room g s ts rs h)))
