-- What `edit` writes for what it wrote.
use Rattle.std.specs.Prelude.{◌≡◌, ℕ, List, Ok}
use Rattle.std.specs.Option.{option_map}
use Rattle.sudoers_run.specs.declared.input_shape.EditInputShape.{EditInputShape}
use Rattle.sudoers_run.specs.Edit.{edit_output_of_input, script_shape_and_policy_text}

-- What `edit` wrote, given to it again, with no edit taken back then: it writes the first policy behind its script, in the same form, byte
-- for byte.
pub record EditOutputRestoresPolicy (input out : List ℕ) : Type 0 where
  pub back : List ℕ
  pub again : edit_output_of_input 0 0 out ≡ Ok back
  pub policy : option_map {U = EditInputShape × List ℕ} (λ parts. (parts.1, parts.2)) (script_shape_and_policy_text back) ≡ option_map {U = EditInputShape × List ℕ} (λ parts. (parts.1, parts.2)) (script_shape_and_policy_text input)
