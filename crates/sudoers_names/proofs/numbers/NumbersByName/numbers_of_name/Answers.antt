use Rattle.std.proofs.Common.{[], ap, sym, ◌∙◌}
use Rattle.std.specs.Option.{option_map_or}
use Rattle.sudoers_names.specs.Numbers.{numbers_of_name}
use Rattle.sudoers_names.proofs.NamedNumbers.{numbers_are_looked_up}
use Rattle.sudoers_names.proofs.numbers.NumbersByName.numbers_of_name.Goals as goal

pub returns-in-Some : goal.returns-in-Some
returns-in-Some c =
    c.as_slice.ensures.value ∙ ap (λ found. option_map_or (λ numbers. numbers.items) found []) c.in-Some.ensures.value
    ∙ sym (numbers_are_looked_up (λ key. key.items) (λ numbers. numbers.items) c.args.name.now c.self.inside.numbers.entries) ∙ ap (numbers_of_name c.args.name.now) c.self.view_is

pub returns-in-None : goal.returns-in-None
returns-in-None c =
    ap (λ found. option_map_or (λ numbers. numbers.items) found []) c.in-None.ensures.value
    ∙ sym (numbers_are_looked_up (λ key. key.items) (λ numbers. numbers.items) c.args.name.now c.self.inside.numbers.entries) ∙ ap (numbers_of_name c.args.name.now) c.self.view_is
