-- A device of the proofs, which no public contract cites: lines of which definitions are taken out one after another, from the last on.
use Rattle.std.specs.Prelude.{◌≡◌, true, ◌≤◌, ◌<◌, ℕ, zero, suc, List, [], ◌∷◌, length, Option, Some}
use Rattle.sudoers_grammar.specs.Node.{Def, Node}
use Rattle.sudoers_grammar.specs.Node as node
use Rattle.sudoers_grammar.specs.declared.node.Kind.{Kind}
use Rattle.sudoers_tree.specs.Single.{reading_of_single_line}
use Rattle.sudoers_tree.specs.declared.line_change.LineChange.{LineChange}
use Rattle.sudoers_edit.specs.declared.line_being_cut.LineBeingCut.{LineBeingCut}
use Rattle.sudoers_edit.specs.declared.prune_plan.LastCutLine.{LastCutLine}
use Rattle.sudoers_edit.specs.Splice.{extents_of_definitions, owned_bytes_start, owned_bytes_stop}
use Rattle.sudoers_edit.specs.internal.Drafts.{replacement_text_by_first_change}
use Rattle.sudoers_edit.specs.internal.Plain.{IsPlainCut, IsPlainLine, is_kind_of_words}

-- where the item at a place ends
abbrev pub stop_of_item_at : {X : Type 0} → (X → ℕ) → List X → ℕ → ℕ
stop_of_item_at stop [] at = 0
stop_of_item_at stop (x ∷ xs) zero = stop x
stop_of_item_at stop (x ∷ xs) (suc at) = stop_of_item_at stop xs at

abbrev pub stop_of_def : Def → ℕ
stop_of_def d = d.stop

-- The text reads as a line of definitions. There are `count`. Those before the place `at` end where they do in the first reading, and all
-- are of the first reading if they are as many.
pub record IsLineKnown (known : LineBeingCut) (text : List ℕ) : Type 0 where
  pub kind : Kind
  pub defs : List Def
  pub others : List Def
  pub first : known.reading ≡ node.Alias kind defs
  pub says : reading_of_single_line text ≡ Some (node.Alias kind others)
  pub count_is : length others ≡ known.count
  pub inside : known.at ≤ known.count
  pub fits : known.count ≤ length defs
  pub same : (i : ℕ) → i < known.at → stop_of_item_at stop_of_def others i ≡ stop_of_item_at stop_of_def defs i
  pub fresh : known.count ≡ length defs → others ≡ defs
  pub plain : known.is_plain ≡ true → IsPlainLine text

-- It is sure that the line reads as before but for the definition at this place, if these bytes go.
pub record IsSureToCut (known : LineBeingCut) (text : List ℕ) (at from to : ℕ) : Type 0 where
  pub later : 0 < at
  pub before : at < known.at
  pub many : 2 ≤ known.count
  pub kind : Kind
  pub defs : List Def
  pub reads : known.reading ≡ node.Alias kind defs
  pub words : is_kind_of_words kind ≡ true
  pub begins : owned_bytes_start at (extents_of_definitions defs) ≡ Some from
  pub stops : owned_bytes_stop at (extents_of_definitions defs) ≡ Some to
  pub cut : IsPlainCut from to text

-- The first change replaces this line by a text of which this is known.
abbrev pub IsLastCutLineKnown : List LineChange → Option LastCutLine → Type 0
IsLastCutLineKnown changes last =
    (l : LastCutLine) → last ≡ Some l → (text : List ℕ) × (replacement_text_by_first_change l.file l.line changes ≡ Some text) × IsLineKnown l.known text
