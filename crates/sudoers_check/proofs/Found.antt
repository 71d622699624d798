-- What marking nodes keeps, and what it comes to.
use Rattle.sudoers_check.proofs.Common.{AllByRecursion, AreNodesOfGraph, Bool, HasEdge, IsMarkedNode, IsPartialReachSearch, IsReachedFromNodes, List, ListHasElement, ListsMarkedNodes, MarksDecidePredicate}
use Rattle.sudoers_check.proofs.Common.{MarksNodesAdded, None, Some, [], ap, arith, cases_lt, cond, count_by, edge_targets_of_node, false, get_or, get_or_from_slice_get, here, inl, inr, length, length-append}
use Rattle.sudoers_check.proofs.Common.{length-replicate, length-set, not, onward, replicate, set, slice_get, slice_get-get_or, slice_get_within, subst, suc, sym, true, zero, ℕ, ◌++◌, ◌+◌, ◌<◌, ◌∙◌, ◌∷◌, ◌≡◌, ◌≢◌}
use Rattle.sudoers_check.proofs.Common.{◌≤◌, ◌⊎◌}
use Rattle.std.proofs.lemmas.List.Folds.{sum_by-replicate}
use Rattle.std.proofs.lemmas.List.Sums.{sum_by-set}
use Rattle.sudoers_check.proofs.Lists.{Has_at, place_of, get_front, get_pushed, get_push, get-set_same, get-set_other, get-set}

unmarked_nodes_have_no_marked_node : (n v : ℕ) → IsMarkedNode (replicate n false) v → ⊥
unmarked_nodes_have_no_marked_node zero v e = absurd cc
unmarked_nodes_have_no_marked_node (suc n) zero e = absurd cc
unmarked_nodes_have_no_marked_node (suc n) (suc v) e = unmarked_nodes_have_no_marked_node n v e

unmarked_count_of_fresh_marks_is_all : (n : ℕ) → count_by not (replicate n false) ≡ n
unmarked_count_of_fresh_marks_is_all n = sum_by-replicate (λ b. cond (not b) 1 0) n false ∙ omega arith

pub no_nodes_are_listed_by_fresh_marks : (n : ℕ) (marks : List Bool) → marks ≡ replicate n false → ListsMarkedNodes n [] marks
no_nodes_are_listed_by_fresh_marks n marks e =
    subst (ListsMarkedNodes n []) (sym e) (record {
      size = length-replicate n false;
      marked = λ i v at. absurd cc;
      listed = λ v m. absurd (unmarked_nodes_have_no_marked_node n v m);
      count = omega (arith, unmarked_count_of_fresh_marks_is_all n);
    })

marking_node_lowers_unmarked_count : (marks : List Bool) (v : ℕ) → slice_get marks v ≡ Some false → count_by not (set marks v true) + 1 ≡ count_by not marks
marking_node_lowers_unmarked_count marks v e =
    let within : v < length marks = slice_get_within marks v false e in
    let was : get_or marks v false ≡ false = get_or_from_slice_get marks v false false e in
    let all = sum_by-set (λ b. cond (not b) 1 0) marks v true false within in
    let sum = rw was at all in
    omega (arith, sum)

-- one more node
pub marking_further_node_extends_listed_nodes : (n : ℕ) (nodes : List ℕ) (marks : List Bool) (v : ℕ) → ListsMarkedNodes n nodes marks → slice_get marks v ≡ Some false
    → ListsMarkedNodes n (nodes ++ v ∷ []) (set marks v true)
marking_further_node_extends_listed_nodes n nodes marks v f e = record {
  size = length-set marks v true ∙ f.size;
  marked = λ i w at. marked_by i w (get_push nodes v i w at);
  listed = λ w m. listed_by w (get-set marks v w true true m);
  count = omega (arith, f.count, marking_node_lowers_unmarked_count marks v e, length-append nodes (v ∷ []));
}
  where
    within : v < length marks
    within = slice_get_within marks v false e

    marked_by : (i w : ℕ) → (slice_get nodes i ≡ Some w) ⊎ ((i ≡ length nodes) × (v ≡ w)) → IsMarkedNode (set marks v true) w
    marked_by i w (inl at) =
        let old : IsMarkedNode marks w = f.marked i w at in
        get-set_other marks v w true (λ same. absurd (let clash : slice_get marks v ≡ Some true = ap (slice_get marks) (sym same) ∙ old in cc)) ∙ old
    marked_by i w (inr at) = subst (IsMarkedNode (set marks v true)) at.1 (get-set_same marks v true within)

    listed_by : (w : ℕ) → ((w ≡ v) × (true ≡ true)) ⊎ ((w ≢ v) × (slice_get marks w ≡ Some true)) → (i : ℕ) × (slice_get (nodes ++ v ∷ []) i ≡ Some w)
    listed_by w (inl same) = (length nodes, get_pushed nodes v ∙ ap Some (sym same.0))
    listed_by w (inr old) = let at = f.listed w old.1 in (at.0, get_front nodes (v ∷ []) at.0 w at.1)

module _ (n : ℕ) (nodes : List ℕ) (marks : List Bool) (new : List ℕ) (i : ℕ) (nodes_i : List ℕ) (marks_i : List Bool) (v : ℕ)
    (g : MarksNodesAdded n nodes marks new i nodes_i marks_i) (at_i : slice_get new i ≡ Some v) where
  last : (j : ℕ) → j < i + 1 → (j < i) ⊎ (j ≡ i)
  last j h = elim (cases_lt j i) [ inl below ↦ inl below | inr past ↦ inr (omega arith) ]

  -- the next node is marked already
  pub grown_same : IsMarkedNode marks_i v → MarksNodesAdded n nodes marks new (i + 1) nodes_i marks_i
  grown_same m = record {
    found = g.found;
    kept = g.kept;
    all = λ j w h at. elim (last j h) [ inl below ↦ g.all j w below at | inr same ↦ subst (IsMarkedNode marks_i) (let e : Some v ≡ Some w = sym at_i ∙ ap (slice_get new) (sym same) ∙ at in cc) m ];
    only = g.only;
  }

  -- the next node is not
  pub grown_more : slice_get marks_i v ≡ Some false → MarksNodesAdded n nodes marks new (i + 1) (nodes_i ++ v ∷ []) (set marks_i v true)
  grown_more e =
      let found : ListsMarkedNodes n (nodes_i ++ v ∷ []) (set marks_i v true) = marking_further_node_extends_listed_nodes n nodes_i marks_i v g.found e in
      let now : IsMarkedNode (set marks_i v true) v = found.marked (length nodes_i) v (get_pushed nodes_i v) in
      let still : (w : ℕ) → IsMarkedNode marks_i w → IsMarkedNode (set marks_i v true) w = (λ w m. let at = g.found.listed w m in found.marked at.0 w (get_front nodes_i (v ∷ []) at.0 w at.1)) in
      record {
        found = found;
        kept = λ j w at. get_front nodes_i (v ∷ []) j w (g.kept j w at);
        all = λ j w h at. elim (last j h) [ inl below ↦ still w (g.all j w below at) | inr same ↦ subst (IsMarkedNode (set marks_i v true)) (let e : Some v ≡ Some w = sym at_i ∙ ap (slice_get new) (sym same) ∙ at in cc) now ];
        only = λ w m. elim (get-set marks_i v w true true m) [ inl same ↦ inr (subst (ListHasElement new) (sym same.0) (Has_at new i v at_i)) | inr old ↦ g.only w old.1 ];
      }

-- ---- all that is reached

module _ (graph : List (List ℕ)) (from : List ℕ) where
  pub sources_marked : (marks : List Bool) → ListsMarkedNodes (length graph) [] marks
      → (nodes_new : List ℕ) (marks_new : List Bool) → MarksNodesAdded (length graph) [] marks from (length from) nodes_new marks_new
      → IsPartialReachSearch graph from nodes_new marks_new 0
  sources_marked marks f nodes_new marks_new g = record {
    found = g.found;
    sources = λ v h. let at = place_of from v h in g.all at.0 v (slice_get_within from at.0 v at.1) at.1;
    reached = λ v m. elim (g.only v m) [ inl old ↦ absurd (let at = f.listed v old in let none : None ≡ Some v = at.1 in cc) | inr h ↦ here v h ];
    edges = λ i v w h. absurd (omega arith);
  }

  pub edges_marked : (nodes : List ℕ) (marks : List Bool) (next v : ℕ) → IsPartialReachSearch graph from nodes marks next → slice_get nodes next ≡ Some v
      → (nodes_new : List ℕ) (marks_new : List Bool) → MarksNodesAdded (length graph) nodes marks (edge_targets_of_node graph v) (length (edge_targets_of_node graph v)) nodes_new marks_new
      → IsPartialReachSearch graph from nodes_new marks_new (next + 1)
  edges_marked nodes marks next v f is nodes_new marks_new g = record {
    found = g.found;
    sources = λ w h. still w (f.sources w h);
    reached = λ w m. elim (g.only w m) [ inl old ↦ f.reached w old | inr h ↦ onward v w (f.reached v (f.found.marked next v is)) h ];
    edges = λ i u w h at e. by i u w e (before i u h at);
  }
    where
      still : (w : ℕ) → IsMarkedNode marks w → IsMarkedNode marks_new w
      still w m = let at = f.found.listed w m in g.found.marked at.0 w (g.kept at.0 w at.1)

      -- the nodes up to the next stood there before
      before : (i u : ℕ) → i < next + 1 → slice_get nodes_new i ≡ Some u → ((i < next) × (slice_get nodes i ≡ Some u)) ⊎ (v ≡ u)
      before i u h at = elim (cases_lt i next) [
        | inl below ↦
            let within : next < length nodes = slice_get_within nodes next v is in
            let old : slice_get nodes i ≡ Some (get_or nodes i 0) = slice_get-get_or nodes i 0 (omega arith) in
            let new = g.kept i (get_or nodes i 0) old in
            let same : Some (get_or nodes i 0) ≡ Some u = sym new ∙ at in
            inl (below, old ∙ same)
        | inr past ↦
            let here_now : i ≡ next = omega arith in
            let same : Some v ≡ Some u = sym (g.kept next v is) ∙ ap (slice_get nodes_new) (sym here_now) ∙ at in
            inr cc
      ]

      by : (i u w : ℕ) → HasEdge graph u w → ((i < next) × (slice_get nodes i ≡ Some u)) ⊎ (v ≡ u) → IsMarkedNode marks_new w
      by i u w e (inl old) = still w (f.edges i u w old.0 old.1 e)
      by i u w e (inr same) = let at = place_of (edge_targets_of_node graph v) w (subst (λ x. HasEdge graph x w) (sym same) e) in g.all at.0 w (slice_get_within (edge_targets_of_node graph v) at.0 w at.1) at.1

  pub reached_marks : (nodes : List ℕ) (marks : List Bool) (next : ℕ) → IsPartialReachSearch graph from nodes marks next → length nodes ≤ next
      → MarksDecidePredicate (IsReachedFromNodes graph from) (length graph) marks
  reached_marks nodes marks next f le = record {
    size = f.found.size;
    holds = f.reached;
    fails = λ v not_marked r. let m = all v r in absurd (let clash : Some true ≡ Some false = sym m ∙ not_marked in cc);
  }
    where
      all : (v : ℕ) → IsReachedFromNodes graph from v → IsMarkedNode marks v
      all v (here x h) = f.sources x h
      all v (onward x y r e) =
          let at = f.found.listed x (all x r) in
          let within : at.0 < length nodes = slice_get_within nodes at.0 x at.1 in
          f.edges at.0 x y (omega arith) at.1 e

-- the edges of a node lead to nodes
pub edge_targets_are_nodes_of_graph : (graph rest : List (List ℕ)) (i : ℕ) → AllByRecursion (AreNodesOfGraph graph) rest → AreNodesOfGraph graph (edge_targets_of_node rest i)
edge_targets_are_nodes_of_graph graph [] i all = tt
edge_targets_are_nodes_of_graph graph (es ∷ rest) zero all = all.0
edge_targets_are_nodes_of_graph graph (es ∷ rest) (suc i) all = edge_targets_are_nodes_of_graph graph rest i all.1
