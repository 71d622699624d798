-- What closing a group keeps.
use Rattle.sudoers_check.proofs.Common.{AreOpenNodesClosedFromPlaceOn, Bool, Closed, NodeOnSearchPath, HasEdge, HasPathBetween, IsClosedOrInGroupNotBefore, IsEdgeLookedAt, IsInGroupNotBefore, IsMarkOfClosedNode, IsMetNode, IsOnCycle}
use Rattle.sudoers_check.proofs.Common.{IsReachedByChainOfSteps, HasSearchInvariantWithNextNode, List, ListHasElement, New, NodeSearchState, None, Open, Some, [], ap, arith, cases_eq, cases_lt, edge_targets_of_node, eqb_tells, false}
use Rattle.sudoers_check.proofs.Common.{get_or, here, inl, inr, length, length-append, length-set, nat_eq, not, onward, open_place_of_path_node, set, slice_get, slice_get-get_or, slice_get_within, subst, sym, take, take-take}
use Rattle.sudoers_check.proofs.Common.{true, ℕ, ◌++◌, ◌+◌, ◌<◌, ◌∙◌, ◌∷◌, ◌≡◌, ◌≤◌, ◌⊎◌}
use Rattle.std.proofs.Math.Seq.{take-append_seam}
use Rattle.sudoers_check.proofs.Lists.{place_of, get_pushed, Has_front, Has_pushed, Has_push, get-set_same, get-set_other, get_cut, get_kept}
use Rattle.sudoers_check.proofs.Ascending.{ascends_front, ascends_last}
use Rattle.sudoers_check.proofs.Fuel.{closing_node_keeps_search_steps_left}
use Rattle.sudoers_check.proofs.Paths.{round_trip}
use Rattle.sudoers_check.proofs.Searching.{no_next_node_leaves_first_case, last_at, starts_up_to, looked_all}

-- ---- one more node is closed

module _ (graph : List (List ℕ)) (alone : Bool) (standings : List NodeSearchState) (marks : List Bool) (nodes : List ℕ)
    (stands : (p v : ℕ) → slice_get nodes p ≡ Some v → slice_get standings v ≡ Some (Open p)) (sizes : length marks ≡ length standings)
    (standings_i : List NodeSearchState) (marks_i : List Bool) (nodes_i rest : List ℕ) (v : ℕ) (e : nodes_i ≡ rest ++ v ∷ [])
    (c : AreOpenNodesClosedFromPlaceOn graph alone (length nodes_i) standings marks nodes standings_i marks_i nodes_i) where
  pub long : length nodes_i ≡ length rest + 1
  long = ap length e ∙ length-append rest (v ∷ [])

  at_v : slice_get nodes (length rest) ≡ Some v
  at_v = (get_cut (length nodes_i) nodes (length rest) v (ap (λ ns. slice_get ns (length rest)) (sym c.nodes_are ∙ e) ∙ get_pushed rest v)).1

  pub next_stands : slice_get standings_i v ≡ Some (Open (length rest))
  next_stands = elim (c.others v) [
    | inl same ↦ same.0 ∙ stands (length rest) v at_v
    | inr o ↦
        let clash : Some (Open o.0) ≡ Some (Open (length rest)) = sym (stands o.0 v o.3) ∙ stands (length rest) v at_v in
        let same : o.0 ≡ length rest = cc in
        absurd (omega (arith, o.2, long))
  ]

  pub next_within : v < length standings_i
  next_within = slice_get_within standings_i v (Open (length rest)) next_stands

  pub closed_more : (mark : Bool) → IsMarkOfClosedNode graph alone v mark
      → AreOpenNodesClosedFromPlaceOn graph alone (length rest) standings marks nodes (set standings_i v Closed) (set marks_i v mark) rest
  closed_more mark is = record {
    nodes_are = sym (take-append_seam rest (v ∷ [])) ∙ ap (take (length rest)) (sym e ∙ c.nodes_are) ∙ take-take (length rest) (length nodes_i) nodes (omega (arith, long));
    standings_size = length-set standings_i v Closed ∙ c.standings_size;
    marks_size = length-set marks_i v mark ∙ c.marks_size;
    closed = λ p u le at. elim (cases_eq u v) [
      | inl same ↦ closed_now u same
      | inr other ↦ elim (cases_eq p (length rest)) [
        | inl here_is ↦ absurd (other (let two : Some u ≡ Some v = sym at ∙ ap (slice_get nodes) here_is ∙ at_v in cc))
        | inr past ↦ get-set_other standings_i v u Closed other ∙ c.closed p u (omega (arith, long)) at
      ]
    ];
    others = λ u. elim (cases_eq u v) [
      | inl same ↦ inr (length rest, mark, omega arith, at_v ∙ ap Some (sym same), closed_now u same, marked_now u same, subst (λ x. IsMarkOfClosedNode graph alone x mark) (sym same) is)
      | inr other ↦ elim (c.others u) [
        | inl o ↦ inl (get-set_other standings_i v u Closed other ∙ o.0, get-set_other marks_i v u mark other ∙ o.1)
        | inr o ↦ inr (o.0, o.1, omega (arith, o.2, long), o.3, get-set_other standings_i v u Closed other ∙ o.4, get-set_other marks_i v u mark other ∙ o.5, o.6)
      ]
    ];
    fresh_same = closing_node_keeps_search_steps_left standings_i graph v (length rest) next_stands ∙ c.fresh_same;
  }
    where
      closed_now : (u : ℕ) → u ≡ v → slice_get (set standings_i v Closed) u ≡ Some Closed
      closed_now u same = ap (slice_get (set standings_i v Closed)) same ∙ get-set_same standings_i v Closed next_within

      marked_now : (u : ℕ) → u ≡ v → slice_get (set marks_i v mark) u ≡ Some mark
      marked_now u same = ap (slice_get (set marks_i v mark)) same ∙ get-set_same marks_i v mark (let within = next_within in omega (arith, c.standings_size, c.marks_size, sizes))

-- the mark of a node that is not alone
pub node_in_joined_group_is_marked_cyclic : (graph : List (List ℕ)) (v m n : ℕ) (mark : Bool) → mark ≡ not (nat_eq m n) → (m ≡ n → ⊥) → IsMarkOfClosedNode graph (nat_eq m n) v mark
node_in_joined_group_is_marked_cyclic graph v m n mark is apart = elim (eqb_tells m n) [
  | inl same ↦ absurd (apart same.1)
  | inr other ↦ record {
    says = λ e. inl other.0;
    denies = λ e. absurd (let clash : true ≡ false = sym (is ∙ ap not other.0) ∙ e in cc);
  }
]

-- no node becomes new
pub closing_nodes_keeps_met_nodes : (graph : List (List ℕ)) (alone : Bool) (place : ℕ) (standings : List NodeSearchState) (marks : List Bool) (nodes : List ℕ)
    (standings_new : List NodeSearchState) (marks_new : List Bool) (nodes_new : List ℕ)
    → AreOpenNodesClosedFromPlaceOn graph alone place standings marks nodes standings_new marks_new nodes_new → (v : ℕ) → IsMetNode standings v → IsMetNode standings_new v
closing_nodes_keeps_met_nodes graph alone place standings marks nodes standings_new marks_new nodes_new c v met e = elim (c.others v) [
  | inl same ↦ met (sym same.0 ∙ e)
  | inr o ↦ let clash : Some Closed ≡ Some New = sym o.4 ∙ e in absurd cc
]

-- ---- the last group is closed

module _ (graph : List (List ℕ)) (standings : List NodeSearchState) (marks : List Bool) (nodes groups : List ℕ) (way : List NodeOnSearchPath) (step : NodeOnSearchPath)
    (f : HasSearchInvariantWithNextNode graph None standings marks nodes (groups ++ step.place ∷ []) (way ++ step ∷ []))
    (done : length (edge_targets_of_node graph step.node) ≤ step.edges)
    (standings_new : List NodeSearchState) (marks_new : List Bool) (nodes_new : List ℕ)
    (c : AreOpenNodesClosedFromPlaceOn graph (nat_eq (step.place + 1) (length nodes)) step.place standings marks nodes standings_new marks_new nodes_new) where
  starts_before : (b : ℕ) → ListHasElement (groups ++ step.place ∷ []) b → b ≤ step.place
  starts_before = starts_up_to graph standings marks nodes (groups ++ step.place ∷ []) way step f

  place_within : step.place < length nodes
  place_within = slice_get_within nodes step.place step.node (last_at graph standings marks nodes (groups ++ step.place ∷ []) way step f)

  one_place : (p q v : ℕ) → slice_get nodes p ≡ Some v → slice_get nodes q ≡ Some v → p ≡ q
  one_place p q v at_p at_q =
      let clash : Some (Open p) ≡ Some (Open q) = sym (f.stands p v at_p) ∙ f.stands q v at_q in
      cc

  before : (p v : ℕ) → slice_get nodes_new p ≡ Some v → (p < step.place) × (slice_get nodes p ≡ Some v)
  before p v at = get_cut step.place nodes p v (ap (λ ns. slice_get ns p) (sym c.nodes_are) ∙ at)

  remains : (p v : ℕ) → p < step.place → slice_get nodes p ≡ Some v → slice_get nodes_new p ≡ Some v
  remains p v lt at = ap (λ ns. slice_get ns p) c.nodes_are ∙ get_kept step.place nodes p v lt at

  stays_closed : (v : ℕ) → slice_get standings v ≡ Some Closed → slice_get standings_new v ≡ Some Closed
  stays_closed v e = elim (c.others v) [ inl same ↦ same.0 ∙ e | inr o ↦ o.4 ]

  -- where the edges of the group lead
  beyond : (p v : ℕ) → step.place ≤ p → slice_get nodes p ≡ Some v → (x : ℕ) → HasEdge graph v x
      → (slice_get standings x ≡ Some Closed) ⊎ ((q : ℕ) × (slice_get nodes q ≡ Some x) × (step.place ≤ q))
  beyond p v le at x e =
      let j = place_of (edge_targets_of_node graph v) x e in
      let on_way_past : IsEdgeLookedAt way p j.0 = (λ t k on. absurd (let lt : t.place < step.place = ascends_last open_place_of_path_node way step f.way_ascends t k in omega arith)) in
      let looked : IsEdgeLookedAt (way ++ step ∷ []) p j.0 = looked_all graph standings marks nodes (groups ++ step.place ∷ []) way step f done p j.0 v x at j.1 on_way_past in
      elim (no_next_node_leaves_first_case x (f.looked p j.0 v x at j.1 looked)) [
        | inl cl ↦ inl cl
        | inr o ↦ inr (o.0, o.1, o.2 step.place (Has_pushed groups step.place) le)
      ]

  stands_now : (p v : ℕ) → slice_get nodes_new p ≡ Some v → slice_get standings_new v ≡ Some (Open p)
  stands_now p v at =
      let b = before p v at in
      elim (c.others v) [
        | inl same ↦ same.0 ∙ f.stands p v b.1
        | inr o ↦ absurd (let one : o.0 ≡ p = one_place o.0 p v o.3 b.1 in omega (arith, o.2, b.0))
      ]

  placed_now : (p v : ℕ) → slice_get standings_new v ≡ Some (Open p) → slice_get nodes_new p ≡ Some v
  placed_now p v e = elim (c.others v) [
    | inl same ↦
        let old : slice_get nodes p ≡ Some v = f.placed p v (sym same.0 ∙ e) in
        elim (cases_lt p step.place) [
          | inl lt ↦ remains p v lt old
          | inr le ↦ absurd (let clash : Some (Open p) ≡ Some Closed = sym e ∙ c.closed p v le old in cc)
        ]
    | inr o ↦ absurd (let clash : Some (Open p) ≡ Some Closed = sym e ∙ o.4 in cc)
  ]

  paths_now : (p q v x : ℕ) → slice_get nodes_new p ≡ Some v → slice_get nodes_new q ≡ Some x → IsInGroupNotBefore groups p q → HasPathBetween graph v x
  paths_now p q v x at_p at_q nb =
      let b = before p v at_p in
      f.paths p q v x b.1 (before q x at_q).1 (λ g h le. elim (Has_push groups step.place g h) [ inl k ↦ nb g k le | inr same ↦ absurd (omega (arith, b.0)) ])

  looked_then : (p j v x : ℕ) → slice_get nodes_new p ≡ Some v → slice_get (edge_targets_of_node graph v) j ≡ Some x → IsEdgeLookedAt way p j → IsClosedOrInGroupNotBefore standings_new nodes_new groups p x
  looked_then p j v x at e l =
      let b = before p v at in
      elim (no_next_node_leaves_first_case x (f.looked p j v x b.1 e (λ t h on. elim (Has_push way step t h) [
        | inl k ↦ l t k on
        | inr is ↦ let same : step.place ≡ t.place = ap open_place_of_path_node is in absurd (omega (arith, b.0))
      ]))) [
        | inl cl ↦ inl (stays_closed x cl)
        | inr o ↦ elim (cases_lt o.0 step.place) [
          | inl lt ↦ inr (o.0, remains o.0 x lt o.1, λ g h le. o.2 g (Has_front groups (step.place ∷ []) g h) le)
          | inr le ↦ inl (c.closed o.0 x le o.1)
        ]
      ]

  closed_now : (v x : ℕ) → slice_get standings_new v ≡ Some Closed → HasEdge graph v x → slice_get standings_new x ≡ Some Closed
  closed_now v x cl e = elim (c.others v) [
    | inl same ↦ stays_closed x (f.closed v x (sym same.0 ∙ cl) e)
    | inr o ↦ elim (beyond o.0 v o.2 o.3 x e) [ inl k ↦ stays_closed x k | inr q ↦ c.closed q.0 x q.2 q.1 ]
  ]

  -- another node of the group
  companion : (nat_eq (step.place + 1) (length nodes) ≡ false) → (p : ℕ) → step.place ≤ p → (q : ℕ) × (step.place ≤ q) × (p ≡ q → ⊥) × (q < length nodes)
  companion more p le = elim (eqb_tells (step.place + 1) (length nodes)) [
    | inl same_count ↦ absurd (let clash : true ≡ false = sym same_count.0 ∙ more in cc)
    | inr apart ↦ elim (cases_eq p step.place) [
      | inl first_is ↦ (step.place + 1, omega arith, λ e. absurd (omega arith), let other_count = apart.1 in let within = place_within in omega arith)
      | inr other ↦ (step.place, omega arith, other, place_within)
    ]
  ]

  both_ways : (p v : ℕ) → step.place ≤ p → slice_get nodes p ≡ Some v → nat_eq (step.place + 1) (length nodes) ≡ false → IsOnCycle graph v
  both_ways p v le at more =
      let q = companion more p le in
      let x : ℕ = get_or nodes q.0 0 in
      let at_q : slice_get nodes q.0 ≡ Some x = slice_get-get_or nodes q.0 0 q.3 in
      let one_way : HasPathBetween graph v x = f.paths p q.0 v x at at_q (λ b h less. let s = starts_before b h in omega (arith, q.1, s)) in
      let other_way : HasPathBetween graph x v = f.paths q.0 p x v at_q at (λ b h less. let s = starts_before b h in omega (arith, le, s)) in
      round_trip graph v x (λ same. q.2 (one_place p q.0 v at (at_q ∙ ap Some (sym same)))) one_way other_way

  marked_now : (v : ℕ) → slice_get standings_new v ≡ Some Closed → slice_get marks_new v ≡ Some true → IsOnCycle graph v
  marked_now v cl m = elim (c.others v) [
    | inl same ↦ f.marked v (sym same.0 ∙ cl) (sym same.1 ∙ m)
    | inr o ↦
        let mark_is : Some o.1 ≡ Some true = sym o.5 ∙ m in
        let is : o.1 ≡ true = cc in
        elim (o.6.says is) [ inl more ↦ both_ways o.0 v o.2 o.3 more | inr e ↦ here v e ]
  ]

  unmarked_now : (v : ℕ) → slice_get standings_new v ≡ Some Closed → slice_get marks_new v ≡ Some false → IsOnCycle graph v → ⊥
  unmarked_now v cl m round = elim (c.others v) [
    | inl same ↦ f.unmarked v (sym same.0 ∙ cl) (sym same.1 ∙ m) round
    | inr o ↦
        let mark_is : Some o.1 ≡ Some false = sym o.5 ∙ m in
        let is : o.1 ≡ false = cc in
        let why = o.6.denies is in
        let clash : Some (Open o.0) ≡ Some Closed = sym (f.stands o.0 v o.3) ∙ all_closed o.0 v o.2 o.3 why.0 why.1 v round in
        absurd cc
  ]
    where
      all_closed : (p v : ℕ) → step.place ≤ p → slice_get nodes p ≡ Some v → nat_eq (step.place + 1) (length nodes) ≡ true → (HasEdge graph v v → ⊥)
          → (x : ℕ) → IsReachedByChainOfSteps (HasEdge graph) (HasEdge graph v) x → slice_get standings x ≡ Some Closed
      all_closed p v le at alone none x (here y e) = elim (beyond p v le at x e) [
        | inl cl ↦ cl
        | inr q ↦ elim (eqb_tells (step.place + 1) (length nodes)) [
          | inl same_count ↦
              let q_within : q.0 < length nodes = slice_get_within nodes q.0 x q.1 in
              let p_within : p < length nodes = slice_get_within nodes p v at in
              let count = same_count.1 in
              let same : q.0 ≡ p = omega (arith, q.2, count) in
              let two : Some x ≡ Some v = sym q.1 ∙ ap (slice_get nodes) same ∙ at in
              let is : x ≡ v = cc in
              absurd (none (subst (HasEdge graph v) is e))
          | inr apart ↦ absurd (let clash : true ≡ false = sym alone ∙ apart.0 in cc)
        ]
      ]
      all_closed p v le at alone none x (onward y z ch e) = f.closed y z (all_closed p v le at alone none y ch) e

  pub left_closed : HasSearchInvariantWithNextNode graph None standings_new marks_new nodes_new groups way
  left_closed = record {
    standings_size = c.standings_size ∙ f.standings_size;
    marks_size = c.marks_size ∙ f.marks_size;
    stands = stands_now;
    placed = placed_now;
    paths = paths_now;
    looked = λ p j v x at e l. inl (looked_then p j v x at e l);
    closed = closed_now;
    marked = marked_now;
    unmarked = unmarked_now;
    on_way = λ t h. remains t.place t.node (ascends_last open_place_of_path_node way step f.way_ascends t h) (f.on_way t (Has_front way (step ∷ []) t h));
    way_ascends = ascends_front open_place_of_path_node way (step ∷ []) f.way_ascends;
    groups_ascend = ascends_front (λ n. n) groups (step.place ∷ []) f.groups_ascend;
    starts = λ b h.
        let t = f.starts b (Has_front groups (step.place ∷ []) b h) in
        elim (Has_push way step t.0 t.1) [
          | inl k ↦ (t.0, k, t.2)
          | inr is ↦
              let same : step.place ≡ t.0.place = ap open_place_of_path_node is in
              let lt : b < step.place = ascends_last (λ n. n) groups step.place f.groups_ascend b h in
              absurd (omega (arith, t.2))
        ];
    first = λ h.
        let some : 0 < step.place = (before 0 (get_or nodes_new 0 0) (slice_get-get_or nodes_new 0 0 h)).0 in
        let within = place_within in
        elim (Has_push groups step.place 0 (f.first (omega arith))) [ inl k ↦ k | inr e ↦ absurd (omega arith) ];
  }
