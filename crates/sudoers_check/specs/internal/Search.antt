-- A device of the proof, which no public contract cites: a search in depth for nodes on cycles.
use Rattle.std.specs.Prelude.{◌≡◌, ◌≢◌, ◌<◌, ◌≤◌, ◌+◌, ◌-◌, ◌⊎◌, ℕ, Bool, true, false, List, [], ◌∷◌, ◌++◌, length, Option, Some, None, slice_get, slice_set, take, nat_eq}
use Rattle.sudoers_check.specs.Chain.{ListHasElement, IsReachedByChainOfSteps}
use Rattle.sudoers_check.specs.internal.Graph.{edge_targets_of_node, HasEdge, IsOnCycle}
use Rattle.sudoers_check.specs.declared.cycles.CycleSearch.{CycleSearch}
use Rattle.sudoers_check.specs.declared.cycles.NodeSearchState.{NodeSearchState}
use Rattle.sudoers_check.specs.declared.cycles.NodeSearchState.TheVariants.{New, Open, Closed}
use Rattle.sudoers_check.specs.declared.cycles.NodeOnSearchPath.{NodeOnSearchPath}

-- no or more edges lead from v to the node
abbrev pub HasPathBetween : List (List ℕ) → ℕ → ℕ → Type 0
HasPathBetween graph v = IsReachedByChainOfSteps (HasEdge graph) (λ x. v ≡ x)

abbrev pub HasAscendingKeys : {X : Type 0} → (X → ℕ) → List X → Type 0
HasAscendingKeys {X} key xs = (i j : ℕ) (x y : X) → slice_get xs i ≡ Some x → slice_get xs j ≡ Some y → i < j → key x < key y

abbrev pub open_place_of_path_node : NodeOnSearchPath → ℕ
open_place_of_path_node s = s.place

-- the group of the place q is that of the place p or a later one
abbrev pub IsInGroupNotBefore : List ℕ → ℕ → ℕ → Type 0
IsInGroupNotBefore groups p q = (b : ℕ) → ListHasElement groups b → b ≤ p → b ≤ q

-- this edge of the node at the place was looked at
abbrev pub IsEdgeLookedAt : List NodeOnSearchPath → ℕ → ℕ → Type 0
IsEdgeLookedAt way p j = (s : NodeOnSearchPath) → ListHasElement way s → s.place ≡ p → j < s.edges

-- The node is closed, or in the group of the place or a later one.
abbrev pub IsClosedOrInGroupNotBefore : List NodeSearchState → List ℕ → List ℕ → ℕ → ℕ → Type 0
IsClosedOrInGroupNotBefore standings nodes groups p w =
    (slice_get standings w ≡ Some Closed) ⊎ ((q : ℕ) × (slice_get nodes q ≡ Some w) × IsInGroupNotBefore groups p q)

abbrev pub IsMetNode : List NodeSearchState → ℕ → Type 0
IsMetNode standings v = slice_get standings v ≢ Some New

-- What the search keeps. An edge to the next node, if there is one, counts as looked at.
pub record HasSearchInvariantWithNextNode (graph : List (List ℕ)) (next : Option ℕ) (standings : List NodeSearchState) (marks : List Bool) (nodes groups : List ℕ) (way : List NodeOnSearchPath) : Type 0 where
  pub standings_size : length standings ≡ length graph
  pub marks_size : length marks ≡ length graph
  pub stands : (p v : ℕ) → slice_get nodes p ≡ Some v → slice_get standings v ≡ Some (Open p)
  pub placed : (p v : ℕ) → slice_get standings v ≡ Some (Open p) → slice_get nodes p ≡ Some v
  pub paths : (p q v w : ℕ) → slice_get nodes p ≡ Some v → slice_get nodes q ≡ Some w → IsInGroupNotBefore groups p q → HasPathBetween graph v w
  pub looked : (p j v w : ℕ) → slice_get nodes p ≡ Some v → slice_get (edge_targets_of_node graph v) j ≡ Some w → IsEdgeLookedAt way p j
      → IsClosedOrInGroupNotBefore standings nodes groups p w ⊎ (next ≡ Some w)
  pub closed : (v w : ℕ) → slice_get standings v ≡ Some Closed → HasEdge graph v w → slice_get standings w ≡ Some Closed
  pub marked : (v : ℕ) → slice_get standings v ≡ Some Closed → slice_get marks v ≡ Some true → IsOnCycle graph v
  pub unmarked : (v : ℕ) → slice_get standings v ≡ Some Closed → slice_get marks v ≡ Some false → IsOnCycle graph v → ⊥
  pub on_way : (s : NodeOnSearchPath) → ListHasElement way s → slice_get nodes s.place ≡ Some s.node
  pub way_ascends : HasAscendingKeys open_place_of_path_node way
  pub groups_ascend : HasAscendingKeys (λ n. n) groups
  pub starts : (b : ℕ) → ListHasElement groups b → (s : NodeOnSearchPath) × ListHasElement way s × (s.place ≡ b)
  pub first : 0 < length nodes → ListHasElement groups 0

abbrev pub HasSearchInvariant : List (List ℕ) → CycleSearch → Type 0
HasSearchInvariant graph s = HasSearchInvariantWithNextNode graph None s.standings.items s.marks.items s.nodes.items s.groups.items s.way.items

-- the same with a step more at the end of the way
abbrev pub HasSearchInvariantWithLastPathNode : List (List ℕ) → CycleSearch → NodeOnSearchPath → Type 0
HasSearchInvariantWithLastPathNode graph s step = HasSearchInvariantWithNextNode graph None s.standings.items s.marks.items s.nodes.items s.groups.items (s.way.items ++ step ∷ [])

-- The groups from that of the place on are one.
pub record AreGroupsJoined (groups : List ℕ) (place : ℕ) (groups_new : List ℕ) : Type 0 where
  pub kept : (b : ℕ) → ListHasElement groups_new b → ListHasElement groups b
  pub all : (b : ℕ) → ListHasElement groups b → b ≤ place → ListHasElement groups_new b
  pub below : (b : ℕ) → ListHasElement groups_new b → b ≤ place
  pub ascend : HasAscendingKeys (λ n. n) groups_new

-- The node is entered.
pub record EntersNewNode (node : ℕ) (old new : CycleSearch) : Type 0 where
  pub standings : new.standings.items ≡ slice_set old.standings.items node (Open (length old.nodes.items))
  pub marks : new.marks.items ≡ old.marks.items
  pub nodes : new.nodes.items ≡ old.nodes.items ++ node ∷ []
  pub groups : new.groups.items ≡ old.groups.items ++ length old.nodes.items ∷ []
  pub way : new.way.items ≡ old.way.items ++ record { node = node; place = length old.nodes.items; edges = 0 } ∷ []

-- what the mark of a node says that is closed with others, or alone
pub record IsMarkOfClosedNode (graph : List (List ℕ)) (alone : Bool) (v : ℕ) (mark : Bool) : Type 0 where
  pub says : mark ≡ true → (alone ≡ false) ⊎ HasEdge graph v v
  pub denies : mark ≡ false → (alone ≡ true) × (HasEdge graph v v → ⊥)

-- how many steps are left for nodes that were not met
abbrev pub steps_left_for_new_nodes : List NodeSearchState → List (List ℕ) → ℕ
steps_left_for_new_nodes [] graph = 0
steps_left_for_new_nodes (s ∷ ss) [] = 0
steps_left_for_new_nodes (New ∷ ss) (es ∷ graph) = 1 + length es + steps_left_for_new_nodes ss graph
steps_left_for_new_nodes (Open p ∷ ss) (es ∷ graph) = steps_left_for_new_nodes ss graph
steps_left_for_new_nodes (Closed ∷ ss) (es ∷ graph) = steps_left_for_new_nodes ss graph

-- and for the nodes of the way
abbrev pub steps_left_on_path : List (List ℕ) → List NodeOnSearchPath → ℕ
steps_left_on_path graph [] = 0
steps_left_on_path graph (s ∷ way) = 1 + (length (edge_targets_of_node graph s.node) - s.edges) + steps_left_on_path graph way

abbrev pub cycle_search_steps_left : List (List ℕ) → List NodeSearchState → List NodeOnSearchPath → ℕ
cycle_search_steps_left graph standings way = steps_left_for_new_nodes standings graph + steps_left_on_path graph way

-- The open nodes from the place on are closed.
pub record AreOpenNodesClosedFromPlaceOn (graph : List (List ℕ)) (alone : Bool) (place : ℕ) (standings : List NodeSearchState) (marks : List Bool) (nodes : List ℕ) (standings_new : List NodeSearchState) (marks_new : List Bool) (nodes_new : List ℕ) : Type 0 where
  pub nodes_are : nodes_new ≡ take place nodes
  pub standings_size : length standings_new ≡ length standings
  pub marks_size : length marks_new ≡ length marks
  pub closed : (p v : ℕ) → place ≤ p → slice_get nodes p ≡ Some v → slice_get standings_new v ≡ Some Closed
  pub others : (v : ℕ) →
      ((slice_get standings_new v ≡ slice_get standings v) × (slice_get marks_new v ≡ slice_get marks v))
      ⊎ ((p : ℕ) × (mark : Bool) × (place ≤ p) × (slice_get nodes p ≡ Some v) × (slice_get standings_new v ≡ Some Closed) × (slice_get marks_new v ≡ Some mark) × IsMarkOfClosedNode graph alone v mark)
  pub fresh_same : steps_left_for_new_nodes standings_new graph ≡ steps_left_for_new_nodes standings graph

-- What `close` does.
abbrev pub ClosesOpenNodes : List (List ℕ) → ℕ → CycleSearch → CycleSearch → Type 0
ClosesOpenNodes graph place old new =
    AreOpenNodesClosedFromPlaceOn graph (nat_eq (place + 1) (length old.nodes.items)) place old.standings.items old.marks.items old.nodes.items new.standings.items new.marks.items new.nodes.items

-- What a step of the search keeps and comes to.
pub record IsSearchStepResult (graph : List (List ℕ)) (standings : List NodeSearchState) (limit : ℕ) (new : CycleSearch) : Type 0 where
  pub kept : HasSearchInvariant graph new
  pub met : (v : ℕ) → IsMetNode standings v → IsMetNode new.standings.items v
  pub less : cycle_search_steps_left graph new.standings.items new.way.items < limit

abbrev pub SearchStepLeadsTo : List (List ℕ) → CycleSearch → NodeOnSearchPath → CycleSearch → Type 0
SearchStepLeadsTo graph old step new = IsSearchStepResult graph old.standings.items (cycle_search_steps_left graph old.standings.items (old.way.items ++ step ∷ [])) new

-- Of the nodes none became new, and this one was met.
pub record SearchHasMetNode (graph : List (List ℕ)) (standings : List NodeSearchState) (node : ℕ) (new : CycleSearch) : Type 0 where
  pub kept : HasSearchInvariant graph new
  pub met : (v : ℕ) → IsMetNode standings v → IsMetNode new.standings.items v
  pub node_met : IsMetNode new.standings.items node
