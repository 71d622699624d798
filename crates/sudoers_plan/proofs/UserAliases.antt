-- The aliases of a user, round by round.
use Rattle.std.proofs.Common.{◌≡◌, ◌∙◌, ℕ, zero, suc, ◌+◌, ◌-◌, ◌<◌, Bool, true, false, List, [], ◌∷◌, ◌++◌, length, refl, sym, ap, if◌then◌else◌, arith, append_assoc, append-nil, length-append}
use Rattle.std.specs.List.{list_any}
use Rattle.std.specs.Str.{bytes_eq}
use Rattle.sudoers_grammar.specs.Node.{Def}
use Rattle.sudoers_tree.specs.Line.{Line}
use Rattle.sudoers_plan.specs.declared.user_members.ListPart.{ListPart}
use Rattle.sudoers_plan.specs.User.{is_list_of_user, names_after_rounds, names_with_definitions_of_user}

-- NAMES ARE ADDED AT THE END

-- the names begin with these
abbrev Begins : List (List ℕ) → List (List ℕ) → Type 0
Begins names more = (others : List (List ℕ)) × (more ≡ names ++ others)

begins_self : (names : List (List ℕ)) → Begins names names
begins_self names = ([], sym (append-nil names))

begins_then : (a b c : List (List ℕ)) → Begins a b → Begins b c → Begins a c
begins_then a b c (x, p) (y, q) = (x ++ y, q ∙ ap (λ l. l ++ y) p ∙ append_assoc a x y)

with_name_begins : (has is : Bool) (names : List (List ℕ)) (name : List ℕ) → Begins names (if has then names else (if is then names ++ name ∷ [] else names))
with_name_begins true is names name = begins_self names
with_name_begins false true names name = (name ∷ [], refl)
with_name_begins false false names name = begins_self names

with_definitions_begins : (part : ListPart) (user : List ℕ) (all : List Line) (ds : List Def) (names : List (List ℕ)) → Begins names (names_with_definitions_of_user part user all names ds)
with_definitions_begins part user all [] names = begins_self names
with_definitions_begins part user all (d ∷ ds) names =
    begins_then names _ _ (with_name_begins (list_any (bytes_eq d.name) names) (is_list_of_user part user all names d.members) names d.name)
    (with_definitions_begins part user all ds
    (if list_any (bytes_eq d.name) names then names else (if is_list_of_user part user all names d.members then names ++ d.name ∷ [] else names)))

-- ROUNDS

no_more : (names more : List (List ℕ)) → Begins names more → length more ≡ length names → more ≡ names
no_more names more ([], p) h = p ∙ append-nil names
no_more names more (x ∷ others, p) h = absurd (let longer : length (names ++ x ∷ others) ≡ length names + length (x ∷ others) = length-append names (x ∷ others) in let same : length (names ++ x ∷ others) ≡ length names = sym (ap length p) ∙ h in grind (arith, longer, same))

pub rounds_stay : (n : ℕ) (part : ListPart) (user : List ℕ) (lines : List Line) (defs : List Def) (names : List (List ℕ)) → names_with_definitions_of_user part user lines names defs ≡ names
    → names_after_rounds n part user lines defs names ≡ names
rounds_stay zero part user lines defs names h = refl
rounds_stay (suc n) part user lines defs names h = ap (names_after_rounds n part user lines defs) h ∙ rounds_stay n part user lines defs names h

-- A round that adds no name leaves the names.
pub round_ends : (part : ListPart) (user : List ℕ) (lines : List Line) (defs : List Def) (names : List (List ℕ))
    → length (names_with_definitions_of_user part user lines names defs) ≡ length names → names_with_definitions_of_user part user lines names defs ≡ names
round_ends part user lines defs names h = no_more names _ (with_definitions_begins part user lines defs names) h

-- After a round that adds no name, no other round adds one.
pub rounds_end : (n : ℕ) (part : ListPart) (user : List ℕ) (lines : List Line) (defs : List Def) (names : List (List ℕ))
    → length (names_with_definitions_of_user part user lines names defs) ≡ length names → names_after_rounds n part user lines defs names ≡ names
rounds_end n part user lines defs names h = rounds_stay n part user lines defs names (round_ends part user lines defs names h)

-- One round is done, and one less is left.
pub one_round : (limit done : ℕ) (part : ListPart) (user : List ℕ) (lines : List Line) (defs : List Def) (names : List (List ℕ)) → done < limit
    → names_after_rounds (limit - done) part user lines defs names ≡ names_after_rounds (limit - (done + 1)) part user lines defs (names_with_definitions_of_user part user lines names defs)
one_round limit done part user lines defs names h =
    let left : limit - done ≡ suc (limit - (done + 1)) = grind (arith, h) in
    ap (λ n. names_after_rounds n part user lines defs names) left
