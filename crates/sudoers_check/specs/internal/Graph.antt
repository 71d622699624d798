-- A device of the proof, which no public contract cites: graphs. Nodes are numbers from 0; a graph is the list of its nodes, each
-- with the nodes to which its edges lead.
use Rattle.std.specs.Prelude.{◌≡◌, ◌<◌, ℕ, Bool, true, false, List, length, Some, slice_get, slice_index_or, []}
use Rattle.std.specs.List.{AllByRecursion}
use Rattle.sudoers_check.specs.Chain.{ListHasElement, IsReachedByChainOfSteps}

-- the nodes to which the edges of a node lead
abbrev pub edge_targets_of_node : List (List ℕ) → ℕ → List ℕ
edge_targets_of_node graph i = slice_index_or graph i []

-- These are nodes of the graph.
abbrev pub AreNodesOfGraph : List (List ℕ) → List ℕ → Type 0
AreNodesOfGraph graph is = AllByRecursion (λ i. i < length graph) is

-- Edges lead to nodes.
abbrev pub HasAllEdgeTargetsInGraph : List (List ℕ) → Type 0
HasAllEdgeTargetsInGraph graph = AllByRecursion (AreNodesOfGraph graph) graph

abbrev pub HasEdge : List (List ℕ) → ℕ → ℕ → Type 0
HasEdge graph i j = ListHasElement (edge_targets_of_node graph i) j

-- Edges lead to the node from one of these, or it is one.
abbrev pub IsReachedFromNodes : List (List ℕ) → List ℕ → ℕ → Type 0
IsReachedFromNodes graph from = IsReachedByChainOfSteps (HasEdge graph) (ListHasElement from)

-- One or more edges lead from the node to itself.
abbrev pub IsOnCycle : List (List ℕ) → ℕ → Type 0
IsOnCycle graph i = IsReachedByChainOfSteps (HasEdge graph) (HasEdge graph i) i

-- Each of so many marks tells whether P holds of its place.
pub record MarksDecidePredicate (P : ℕ → Type 0) (n : ℕ) (marks : List Bool) : Type 0 where
  pub size : length marks ≡ n
  pub holds : (i : ℕ) → slice_get marks i ≡ Some true → P i
  pub fails : (i : ℕ) → slice_get marks i ≡ Some false → P i → ⊥
