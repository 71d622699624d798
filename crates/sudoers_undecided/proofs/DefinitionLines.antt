-- Definitions, line by line.
use Rattle.std.proofs.Common.{◌≡◌, ◌∙◌, ℕ, ◌+◌, ◌<◌, List, [], ◌∷◌, ◌++◌, map, length, drop, get_or, refl, sym, ap}
use Rattle.std.proofs.lemmas.List.{append_assoc, at_drop_more, map-append}
use Rattle.sudoers_grammar.specs.declared.node.Kind.{Kind}
use Rattle.sudoers_grammar.specs.Node.{Def, Member}
use Rattle.sudoers_tree.specs.Line.{Line}
use Rattle.sudoers_tree.specs.Definition.{definitions_from_line_number, definitions_from_place, definitions_in_line}
use Rattle.sudoers_undecided.specs.internal.Definitions.{kind_and_members_of_def, kind_and_members_of_definition}

pub definitions_on_line_are_its_definitions : (k : Kind) (line n : ℕ) (ds : List Def) → map kind_and_members_of_definition (definitions_from_place k line n ds) ≡ map (kind_and_members_of_def k) ds
definitions_on_line_are_its_definitions k line n [] = refl
definitions_on_line_are_its_definitions k line n (d ∷ ds) = ap (λ rest. kind_and_members_of_def k d ∷ rest) (definitions_on_line_are_its_definitions k line (n + 1) ds)

-- what is held goes on with one line more
pub one_line_more : {X : Type 0} (f : X → Line) (rows : List X) (n : ℕ) (x : X) (old new all : List (Kind × List Member)) → n < length rows
    → old ++ map kind_and_members_of_definition (definitions_from_line_number n (map f (drop n rows))) ≡ all
    → new ≡ old ++ map kind_and_members_of_definition (definitions_in_line n (f (get_or rows n x)).node)
    → new ++ map kind_and_members_of_definition (definitions_from_line_number (n + 1) (map f (drop (n + 1) rows))) ≡ all
one_line_more f rows n x old new all h e added =
    ap (λ ys. ys ++ map kind_and_members_of_definition (definitions_from_line_number (n + 1) (map f (drop (n + 1) rows)))) added
    ∙ append_assoc old (map kind_and_members_of_definition (definitions_in_line n (f (get_or rows n x)).node)) (map kind_and_members_of_definition (definitions_from_line_number (n + 1) (map f (drop (n + 1) rows))))
    ∙ ap (λ ys. old ++ ys) (sym (map-append kind_and_members_of_definition (definitions_in_line n (f (get_or rows n x)).node) (definitions_from_line_number (n + 1) (map f (drop (n + 1) rows)))))
    ∙ ap (λ ys. old ++ ys) (sym (at_drop_more (λ ls. map kind_and_members_of_definition (definitions_from_line_number n (map f ls))) rows n x h))
    ∙ e
