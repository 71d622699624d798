-- Host groups that a filter leaves.
use Rattle.sudoers_cvt_rewrite.proofs.Common.{Bool, Filter, HostGroup, Line, List, None, Option, Some, ap, at_drop_more, cond, drop, false, get_or, host_group_pruned_if_wanted, host_groups_left_by_filter}
use Rattle.sudoers_cvt_rewrite.proofs.Common.{is_host_list_in_filter, length, map, refl, true, ℕ, ◌+◌, ◌<◌, ◌∙◌, ◌∷◌, ◌≡◌}

-- what is left of one host group
abbrev pub host_group_left_if_in_filter : List Line → Filter → Bool → HostGroup → Option HostGroup
host_group_left_if_in_filter lines f prune g = cond (is_host_list_in_filter lines f g.hosts) (Some (host_group_pruned_if_wanted lines f prune g)) None

module _ (lines : List Line) (f : Filter) (prune : Bool) where
  stays_by : (b : Bool) (g s : HostGroup) (gs : List HostGroup) → Some s ≡ cond b (Some (host_group_pruned_if_wanted lines f prune g)) None
      → map (host_group_pruned_if_wanted lines f prune) (cond b (g ∷ gs) gs) ≡ s ∷ map (host_group_pruned_if_wanted lines f prune) gs
  stays_by true g s gs e = let same : host_group_pruned_if_wanted lines f prune g ≡ s = cc in ap (λ x. x ∷ map (host_group_pruned_if_wanted lines f prune) gs) same
  stays_by false g s gs e = absurd cc

  falls_by : (b : Bool) (g : HostGroup) (gs : List HostGroup) → None ≡ cond b (Some (host_group_pruned_if_wanted lines f prune g)) None
      → map (host_group_pruned_if_wanted lines f prune) (cond b (g ∷ gs) gs) ≡ map (host_group_pruned_if_wanted lines f prune) gs
  falls_by true g gs e = absurd cc
  falls_by false g gs e = refl

  module _ {R : Type 0} (view : R → HostGroup) (rows : List R) (i : ℕ) (d : R) (h : i < length rows) where
    abbrev left : List R → List HostGroup
    left rs = host_groups_left_by_filter lines f prune (map view rs)

    pub group_stays : (s : HostGroup) → Some s ≡ host_group_left_if_in_filter lines f prune (view (get_or rows i d)) → left (drop i rows) ≡ s ∷ left (drop (i + 1) rows)
    group_stays s e = at_drop_more left rows i d h ∙ stays_by (is_host_list_in_filter lines f (view (get_or rows i d)).hosts) (view (get_or rows i d)) s _ e

    pub group_falls : None ≡ host_group_left_if_in_filter lines f prune (view (get_or rows i d)) → left (drop i rows) ≡ left (drop (i + 1) rows)
    group_falls e = at_drop_more left rows i d h ∙ falls_by (is_host_list_in_filter lines f (view (get_or rows i d)).hosts) (view (get_or rows i d)) _ e
