-- What the steps of the search keep: an edge is looked at, a node is entered, groups are joined, a node is left.
use Rattle.sudoers_check.proofs.Common.{AreGroupsJoined, Bool, Closed, NodeOnSearchPath, HasEdge, HasPathBetween, IsClosedOrInGroupNotBefore, IsEdgeLookedAt, IsInGroupNotBefore, HasSearchInvariantWithNextNode, List, ListHasElement}
use Rattle.sudoers_check.proofs.Common.{New, NodeSearchState, None, Open, Option, Some, [], ap, arith, cases_eq, cases_lt, edge_targets_of_node, get_or, here, inl, inr, length, length-set, onward, open_place_of_path_node, set}
use Rattle.sudoers_check.proofs.Common.{slice_get, slice_get-get_or, slice_get_within, subst, sym, ℕ, ◌++◌, ◌+◌, ◌-◌, ◌<◌, ◌∙◌, ◌∷◌, ◌≡◌, ◌≤◌, ◌⊎◌}
use Rattle.sudoers_check.proofs.Lists.{Has_at, place_of, get_front, get_pushed, get_push, Has_front, Has_pushed, Has_push, get-set_same, get-set_other, get-set}
use Rattle.sudoers_check.proofs.Ascending.{ascends_front, ascends_last, ascends_push}
use Rattle.sudoers_check.proofs.Paths.{path_on}

pub no_next_node_leaves_first_case : {A : Type 0} (x : ℕ) → A ⊎ (None ≡ Some x) → A
no_next_node_leaves_first_case x (inl a) = a
no_next_node_leaves_first_case x (inr e) = absurd cc

abbrev pub step_with_one_more_edge : NodeOnSearchPath → NodeOnSearchPath
step_with_one_more_edge s = record { node = s.node; place = s.place; edges = s.edges + 1 }

-- ---- the last node of the way

module _ (graph : List (List ℕ)) (standings : List NodeSearchState) (marks : List Bool) (nodes groups : List ℕ) (way : List NodeOnSearchPath) (step : NodeOnSearchPath)
    (f : HasSearchInvariantWithNextNode graph None standings marks nodes groups (way ++ step ∷ [])) where
  pub last_at : slice_get nodes step.place ≡ Some step.node
  last_at = f.on_way step (Has_pushed way step)

  pub starts_up_to : (b : ℕ) → ListHasElement groups b → b ≤ step.place
  starts_up_to b h =
      let s = f.starts b h in
      elim (Has_push way step s.0 s.1) [
        | inl k ↦ let lt : s.0.place < step.place = ascends_last open_place_of_path_node way step f.way_ascends s.0 k in omega (arith, s.2)
        | inr e ↦ let same : step.place ≡ s.0.place = ap open_place_of_path_node e in omega (arith, s.2)
      ]

  -- all open nodes reach the last one, and where its edge leads
  pub all_reach : (w : ℕ) → HasEdge graph step.node w → (p v : ℕ) → slice_get nodes p ≡ Some v → HasPathBetween graph v w
  all_reach w e p v at = onward step.node w (f.paths p step.place v step.node at last_at (λ b h le. starts_up_to b h)) e

  looked_now : (w : ℕ) → slice_get (edge_targets_of_node graph step.node) step.edges ≡ Some w
      → (p j v x : ℕ) → slice_get nodes p ≡ Some v → slice_get (edge_targets_of_node graph v) j ≡ Some x → IsEdgeLookedAt (way ++ step_with_one_more_edge step ∷ []) p j
      → IsClosedOrInGroupNotBefore standings nodes groups p x ⊎ (Some w ≡ Some x)
  looked_now w edge p j v x at e l = elim (cases_eq p step.place) [
    | inl last_is ↦
        let below : j < step.edges + 1 = l (step_with_one_more_edge step) (Has_pushed way (step_with_one_more_edge step)) (sym last_is) in
        elim (cases_eq j step.edges) [
          | inl same ↦
              let node_is : Some v ≡ Some step.node = sym at ∙ ap (slice_get nodes) last_is ∙ last_at in
              let v_is : v ≡ step.node = cc in
              inr (sym edge ∙ ap (slice_get (edge_targets_of_node graph step.node)) (sym same) ∙ ap (λ u. slice_get (edge_targets_of_node graph u) j) (sym v_is) ∙ e)
          | inr other ↦ inl (no_next_node_leaves_first_case x (f.looked p j v x at e (λ s h on. elim (Has_push way step s h) [
            | inl k ↦ l s (Has_front way (step_with_one_more_edge step ∷ []) s k) on
            | inr is ↦ let edges_is : step.edges ≡ s.edges = ap (λ (t : NodeOnSearchPath). t.edges) is in omega arith
          ])))
        ]
    | inr apart ↦ inl (no_next_node_leaves_first_case x (f.looked p j v x at e (λ s h on. elim (Has_push way step s h) [
      | inl k ↦ l s (Has_front way (step_with_one_more_edge step ∷ []) s k) on
      | inr is ↦ absurd (apart (sym (ap open_place_of_path_node is ∙ on)))
    ])))
  ]

  -- the next edge is looked at
  pub advanced : (w : ℕ) → slice_get (edge_targets_of_node graph step.node) step.edges ≡ Some w
      → HasSearchInvariantWithNextNode graph (Some w) standings marks nodes groups (way ++ step_with_one_more_edge step ∷ [])
  advanced w edge = record {
    standings_size = f.standings_size;
    marks_size = f.marks_size;
    stands = f.stands;
    placed = f.placed;
    paths = f.paths;
    looked = looked_now w edge;
    closed = f.closed;
    marked = f.marked;
    unmarked = f.unmarked;
    on_way = λ s h. elim (Has_push way (step_with_one_more_edge step) s h) [
      | inl k ↦ f.on_way s (Has_front way (step ∷ []) s k)
      | inr is ↦ subst (λ (t : NodeOnSearchPath). slice_get nodes t.place ≡ Some t.node) is last_at
    ];
    way_ascends = ascends_push open_place_of_path_node way (step_with_one_more_edge step) (ascends_front open_place_of_path_node way (step ∷ []) f.way_ascends)
        (λ s h. ascends_last open_place_of_path_node way step f.way_ascends s h);
    groups_ascend = f.groups_ascend;
    starts = λ b h. let s = f.starts b h in elim (Has_push way step s.0 s.1) [
      | inl k ↦ (s.0, Has_front way (step_with_one_more_edge step ∷ []) s.0 k, s.2)
      | inr is ↦ (step_with_one_more_edge step, Has_pushed way (step_with_one_more_edge step), ap open_place_of_path_node is ∙ s.2)
    ];
    first = f.first;
  }

  -- all edges of the last node were looked at
  pub looked_all : length (edge_targets_of_node graph step.node) ≤ step.edges → (p j v x : ℕ) → slice_get nodes p ≡ Some v
      → slice_get (edge_targets_of_node graph v) j ≡ Some x → IsEdgeLookedAt way p j → IsEdgeLookedAt (way ++ step ∷ []) p j
  looked_all done p j v x at e l s h on = elim (Has_push way step s h) [
    | inl k ↦ l s k on
    | inr is ↦
        let place_is : step.place ≡ p = ap open_place_of_path_node is ∙ on in
        let node_is : Some step.node ≡ Some v = sym last_at ∙ ap (slice_get nodes) place_is ∙ at in
        let v_is : v ≡ step.node = cc in
        let within : j < length (edge_targets_of_node graph v) = slice_get_within (edge_targets_of_node graph v) j x e in
        let same : length (edge_targets_of_node graph v) ≡ length (edge_targets_of_node graph step.node) = ap (λ u. length (edge_targets_of_node graph u)) v_is in
        let edges_is : step.edges ≡ s.edges = ap (λ (t : NodeOnSearchPath). t.edges) is in
        omega arith
  ]

  -- the last node is left, and its group does not begin with it
  pub left_open : length (edge_targets_of_node graph step.node) ≤ step.edges → (ListHasElement groups step.place → ⊥) → HasSearchInvariantWithNextNode graph None standings marks nodes groups way
  left_open done no_start = record {
    standings_size = f.standings_size;
    marks_size = f.marks_size;
    stands = f.stands;
    placed = f.placed;
    paths = f.paths;
    looked = λ p j v x at e l. f.looked p j v x at e (looked_all done p j v x at e l);
    closed = f.closed;
    marked = f.marked;
    unmarked = f.unmarked;
    on_way = λ s h. f.on_way s (Has_front way (step ∷ []) s h);
    way_ascends = ascends_front open_place_of_path_node way (step ∷ []) f.way_ascends;
    groups_ascend = f.groups_ascend;
    starts = λ b h. let s = f.starts b h in elim (Has_push way step s.0 s.1) [
      | inl k ↦ (s.0, k, s.2)
      | inr is ↦ absurd (no_start (subst (ListHasElement groups) (sym (ap open_place_of_path_node is ∙ s.2)) h))
    ];
    first = f.first;
  }

  -- a group begins with the last node only if the last one does
  pub no_group : (o : Option ℕ) → o ≡ slice_get groups (length groups - 1) → (o ≡ Some step.place → ⊥) → ListHasElement groups step.place → ⊥
  no_group o is other h =
      let at = place_of groups step.place h in
      let within : at.0 < length groups = slice_get_within groups at.0 step.place at.1 in
      elim (cases_lt at.0 (length groups - 1)) [
        | inl before ↦
            let end : slice_get groups (length groups - 1) ≡ Some (get_or groups (length groups - 1) 0) = slice_get-get_or groups (length groups - 1) 0 (omega arith) in
            let more : step.place < get_or groups (length groups - 1) 0 = f.groups_ascend at.0 (length groups - 1) step.place (get_or groups (length groups - 1) 0) at.1 end before in
            let less : get_or groups (length groups - 1) 0 ≤ step.place = starts_up_to _ (Has_at groups (length groups - 1) _ end) in
            omega arith
        | inr behind ↦ let same : at.0 ≡ length groups - 1 = omega arith in other (is ∙ ap (slice_get groups) (sym same) ∙ at.1)
      ]

-- ---- where an edge led

module _ (graph : List (List ℕ)) (next : Option ℕ) (standings : List NodeSearchState) (marks : List Bool) (nodes groups : List ℕ) (way : List NodeOnSearchPath)
    (f : HasSearchInvariantWithNextNode graph next standings marks nodes groups way) (w : ℕ) (is_next : (x : ℕ) → next ≡ Some x → w ≡ x) where
  -- to a closed node
  pub led_to_closed : slice_get standings w ≡ Some Closed → HasSearchInvariantWithNextNode graph None standings marks nodes groups way
  led_to_closed c = record {
    standings_size = f.standings_size;
    marks_size = f.marks_size;
    stands = f.stands;
    placed = f.placed;
    paths = f.paths;
    looked = λ p j v x at e l. inl (elim (f.looked p j v x at e l) [ inl on ↦ on | inr n ↦ inl (ap (slice_get standings) (sym (is_next x n)) ∙ c) ]);
    closed = f.closed;
    marked = f.marked;
    unmarked = f.unmarked;
    on_way = f.on_way;
    way_ascends = f.way_ascends;
    groups_ascend = f.groups_ascend;
    starts = f.starts;
    first = f.first;
  }

  module _ (reach : (p v : ℕ) → slice_get nodes p ≡ Some v → HasPathBetween graph v w) where
    -- to an open node
    pub led_to_open : (q : ℕ) → slice_get standings w ≡ Some (Open q) → (groups_new : List ℕ) → AreGroupsJoined groups q groups_new
        → HasSearchInvariantWithNextNode graph None standings marks nodes groups_new way
    led_to_open q is groups_new j = record {
      standings_size = f.standings_size;
      marks_size = f.marks_size;
      stands = f.stands;
      placed = f.placed;
      paths = λ p r v x at_p at_r nb. elim (cases_lt q p) [
        | inl behind ↦ path_on graph (λ y. v ≡ y) w x (reach p v at_p) (f.paths q r w x at_w at_r (λ b h le. nb b (j.all b h le) (omega arith)))
        | inr before ↦ f.paths p r v x at_p at_r (λ b h le. nb b (j.all b h (omega arith)) le)
      ];
      looked = λ p i v x at e l. inl (elim (f.looked p i v x at e l) [
        | inl on ↦ elim on [ inl c ↦ inl c | inr o ↦ inr (o.0, o.1, λ b h le. o.2 b (j.kept b h) le) ]
        | inr n ↦ inr (q, at_w ∙ ap Some (is_next x n), λ b h le. j.below b h)
      ]);
      closed = f.closed;
      marked = f.marked;
      unmarked = f.unmarked;
      on_way = f.on_way;
      way_ascends = f.way_ascends;
      groups_ascend = j.ascend;
      starts = λ b h. f.starts b (j.kept b h);
      first = λ h. j.all 0 (f.first h) (omega arith);
    }
      where
        at_w : slice_get nodes q ≡ Some w
        at_w = f.placed q w is

    -- to a node that was not met
    module _ (is : slice_get standings w ≡ Some New) where
      abbrev k : ℕ
      k = length nodes

      abbrev standings_new : List NodeSearchState
      standings_new = set standings w (Open (length nodes))

      abbrev entry : NodeOnSearchPath
      entry = record { node = w; place = length nodes; edges = 0 }

      kept : (v : ℕ) (s : NodeSearchState) → (New ≡ s → ⊥) → slice_get standings v ≡ Some s → slice_get standings_new v ≡ Some s
      kept v s n e = get-set_other standings w v (Open k) (λ same. n (let clash : Some New ≡ Some s = sym is ∙ ap (slice_get standings) (sym same) ∙ e in cc)) ∙ e

      was : (v : ℕ) (s : NodeSearchState) → (Open k ≡ s → ⊥) → slice_get standings_new v ≡ Some s → slice_get standings v ≡ Some s
      was v s n e = elim (get-set standings w v (Open k) s e) [ inl here_now ↦ absurd (n here_now.1) | inr old ↦ old.1 ]

      stands_now : (p v : ℕ) → slice_get (nodes ++ w ∷ []) p ≡ Some v → slice_get standings_new v ≡ Some (Open p)
      stands_now p v at = elim (get_push nodes w p v at) [
        | inl old ↦ kept v (Open p) (λ e. absurd cc) (f.stands p v old)
        | inr new ↦ ap (slice_get standings_new) (sym new.1) ∙ get-set_same standings w (Open k) (slice_get_within standings w New is) ∙ ap (λ q. Some (Open q)) (sym new.0)
      ]

      placed_now : (p v : ℕ) → slice_get standings_new v ≡ Some (Open p) → slice_get (nodes ++ w ∷ []) p ≡ Some v
      placed_now p v e = elim (get-set standings w v (Open k) (Open p) e) [
        | inl new ↦
            let open_is : Open k ≡ Open p = new.1 in
            let place_is : k ≡ p = cc in
            ap (slice_get (nodes ++ w ∷ [])) (sym place_is) ∙ get_pushed nodes w ∙ ap Some (sym new.0)
        | inr old ↦ get_front nodes (w ∷ []) p v (f.placed p v old.1)
      ]

      paths_now : (p q v x : ℕ) → slice_get (nodes ++ w ∷ []) p ≡ Some v → slice_get (nodes ++ w ∷ []) q ≡ Some x → IsInGroupNotBefore (groups ++ k ∷ []) p q → HasPathBetween graph v x
      paths_now p q v x at_p at_q nb = by (get_push nodes w p v at_p) (get_push nodes w q x at_q)
        where
          by : (slice_get nodes p ≡ Some v) ⊎ ((p ≡ length nodes) × (w ≡ v)) → (slice_get nodes q ≡ Some x) ⊎ ((q ≡ length nodes) × (w ≡ x)) → HasPathBetween graph v x
          by (inl a) (inl b) = f.paths p q v x a b (λ g h le. nb g (Has_front groups (k ∷ []) g h) le)
          by (inl a) (inr b) = subst (HasPathBetween graph v) b.1 (reach p v a)
          by (inr a) (inl b) =
              let within : q < length nodes = slice_get_within nodes q x b in
              let le : length nodes ≤ q = nb k (Has_pushed groups k) (omega (arith, a.0)) in
              absurd (omega arith)
          by (inr a) (inr b) = here x (sym a.1 ∙ b.1)

      looked_then : (p j v x : ℕ) → slice_get (nodes ++ w ∷ []) p ≡ Some v → slice_get (edge_targets_of_node graph v) j ≡ Some x → IsEdgeLookedAt (way ++ entry ∷ []) p j
          → IsClosedOrInGroupNotBefore standings_new (nodes ++ w ∷ []) (groups ++ k ∷ []) p x
      looked_then p j v x at e l = elim (get_push nodes w p v at) [
        | inl old ↦
            let within : p < length nodes = slice_get_within nodes p v old in
            elim (f.looked p j v x old e (λ s h on. l s (Has_front way (entry ∷ []) s h) on)) [
              | inl on ↦ elim on [
                | inl c ↦ inl (kept x Closed (λ e. absurd cc) c)
                | inr o ↦ inr (o.0, get_front nodes (w ∷ []) o.0 x o.1, λ b h le. elim (Has_push groups k b h) [ inl g ↦ o.2 b g le | inr same ↦ absurd (omega arith) ])
              ]
              | inr n ↦ inr (k, get_pushed nodes w ∙ ap Some (is_next x n), λ b h le. omega arith)
            ]
        | inr new ↦ absurd (let below : j < 0 = l entry (Has_pushed way entry) (sym new.0) in omega arith)
      ]

      pub led_to_new : HasSearchInvariantWithNextNode graph None (set standings w (Open (length nodes))) marks (nodes ++ w ∷ []) (groups ++ length nodes ∷ [])
          (way ++ record { node = w; place = length nodes; edges = 0 } ∷ [])
      led_to_new = record {
        standings_size = length-set standings w (Open k) ∙ f.standings_size;
        marks_size = f.marks_size;
        stands = stands_now;
        placed = placed_now;
        paths = paths_now;
        looked = λ p j v x at e l. inl (looked_then p j v x at e l);
        closed = λ v x c e. kept x Closed (λ e. absurd cc) (f.closed v x (was v Closed (λ e. absurd cc) c) e);
        marked = λ v c m. f.marked v (was v Closed (λ e. absurd cc) c) m;
        unmarked = λ v c m. f.unmarked v (was v Closed (λ e. absurd cc) c) m;
        on_way = λ s h. elim (Has_push way entry s h) [
          | inl old ↦ get_front nodes (w ∷ []) s.place s.node (f.on_way s old)
          | inr same ↦ subst (λ (t : NodeOnSearchPath). slice_get (nodes ++ w ∷ []) t.place ≡ Some t.node) same (get_pushed nodes w)
        ];
        way_ascends = ascends_push open_place_of_path_node way entry f.way_ascends (λ s h. slice_get_within nodes s.place s.node (f.on_way s h));
        groups_ascend = ascends_push (λ n. n) groups k f.groups_ascend (λ b h.
            let s = f.starts b h in
            let within : s.0.place < length nodes = slice_get_within nodes s.0.place s.0.node (f.on_way s.0 s.1) in
            omega (arith, s.2));
        starts = λ b h. elim (Has_push groups k b h) [
          | inl old ↦ let s = f.starts b old in (s.0, Has_front way (entry ∷ []) s.0 s.1, s.2)
          | inr same ↦ (entry, Has_pushed way entry, same)
        ];
        first = λ h. elim (cases_lt 0 (length nodes)) [
          | inl some ↦ Has_front groups (k ∷ []) 0 (f.first some)
          | inr none ↦ let zero_is : k ≡ 0 = omega arith in subst (ListHasElement (groups ++ k ∷ [])) zero_is (Has_pushed groups k)
        ];
      }
