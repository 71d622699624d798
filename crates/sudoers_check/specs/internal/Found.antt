-- A device of the proof, which no public contract cites: nodes that were found, in a list, and a mark for each node.
use Rattle.std.specs.Prelude.{◌≡◌, ◌<◌, ◌+◌, ◌⊎◌, ℕ, Bool, true, List, length, Some, slice_get, count_by, not}
use Rattle.sudoers_check.specs.Chain.{ListHasElement}
use Rattle.sudoers_check.specs.internal.Graph.{HasEdge, IsReachedFromNodes}

abbrev pub IsMarkedNode : List Bool → ℕ → Type 0
IsMarkedNode marks v = slice_get marks v ≡ Some true

-- The list has the nodes that are marked, each once.
pub record ListsMarkedNodes (n : ℕ) (nodes : List ℕ) (marks : List Bool) : Type 0 where
  pub size : length marks ≡ n
  pub marked : (i v : ℕ) → slice_get nodes i ≡ Some v → IsMarkedNode marks v
  pub listed : (v : ℕ) → IsMarkedNode marks v → (i : ℕ) × (slice_get nodes i ≡ Some v)
  pub count : count_by not marks + length nodes ≡ n

-- So many of the new nodes are marked, and none but these.
pub record MarksNodesAdded (n : ℕ) (nodes : List ℕ) (marks : List Bool) (new : List ℕ) (many : ℕ) (nodes_new : List ℕ) (marks_new : List Bool) : Type 0 where
  pub found : ListsMarkedNodes n nodes_new marks_new
  pub kept : (i v : ℕ) → slice_get nodes i ≡ Some v → slice_get nodes_new i ≡ Some v
  pub all : (i v : ℕ) → i < many → slice_get new i ≡ Some v → IsMarkedNode marks_new v
  pub only : (v : ℕ) → IsMarkedNode marks_new v → IsMarkedNode marks v ⊎ ListHasElement new v

-- What is found so far: of so many of the nodes all edges were looked at.
pub record IsPartialReachSearch (graph : List (List ℕ)) (from nodes : List ℕ) (marks : List Bool) (next : ℕ) : Type 0 where
  pub found : ListsMarkedNodes (length graph) nodes marks
  pub sources : (v : ℕ) → ListHasElement from v → IsMarkedNode marks v
  pub reached : (v : ℕ) → IsMarkedNode marks v → IsReachedFromNodes graph from v
  pub edges : (i v w : ℕ) → i < next → slice_get nodes i ≡ Some v → HasEdge graph v w → IsMarkedNode marks w
