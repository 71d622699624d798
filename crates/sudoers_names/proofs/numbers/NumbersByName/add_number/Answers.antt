use Rattle.std.proofs.Common.{List, Vec, [], ap, bytes_eq, sym, ℕ, ◌++◌, ◌∙◌, ◌∷◌, ◌≡◌}
use Rattle.std.specs.declared.alloc.Global.{Global}
use Rattle.indexmap.specs.IndexMap.{insert_entry}
use Rattle.sudoers_names.specs.Numbers.{numbers_of_name}
use Rattle.sudoers_names.proofs.NamedNumbers.{named_numbers, numbers_after_insert, numbers_after_write, numbers_with_added}
use Rattle.sudoers_names.proofs.numbers.NumbersByName.add_number.Goals as goal

pub returns-in-Some : goal.returns-in-Some
returns-in-Some c = λ other.
    let items : Vec ℕ Global → List ℕ = λ v. v.items in
    let name = c.args.name.now in
    let number = c.args.number in
    ap (λ es. numbers_of_name other (named_numbers items items es)) (c.get_mut.follows.holds c.push.new.self).0
    ∙ numbers_after_write items items name number c.in-Some.numbers.now c.push.new.self c.in_ok-push.ensures.items c.self.inside.numbers.entries (sym c.in-Some.ensures.value) other
    ∙ ap (λ ns. numbers_with_added name number other (numbers_of_name other ns)) c.self.view_is

pub returns : goal.returns
returns c = λ other.
    let items : Vec ℕ Global → List ℕ = λ v. v.items in
    let name = c.args.name.now in
    let number = c.args.number in
    let key = c.in_ok-from_slice.field-0 in
    let now = c.push-2.new.self in
    let now_is : now.items ≡ number ∷ [] = c.in_ok-push-2.ensures.items ∙ ap (λ (ns : List ℕ). ns ++ number ∷ []) c.new-numbers.ensures.items in
    ap (λ es. numbers_of_name other (named_numbers items items es)) c.in_ok-insert.ensures.entries
    ∙ ap (λ m. numbers_of_name other (named_numbers items items (insert_entry (λ a b. bytes_eq a.items b.items) m.entries key now))) c.get_mut.follows.holds-at-none
    ∙ numbers_after_insert items items name number key now c.in_ok-from_slice.ensures.items now_is c.self.inside.numbers.entries (sym c.in_default.ensures.value) other
    ∙ ap (λ ns. numbers_with_added name number other (numbers_of_name other ns)) c.self.view_is
