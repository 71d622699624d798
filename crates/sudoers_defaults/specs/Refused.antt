-- The parameters of a policy that sudo refuses, and where they stand.
use Rattle.std.specs.Prelude.{ℕ, suc, List, [], ◌∷◌, ◌++◌, drop, slice_range, Option, Some, None, option_map, if◌then◌else◌}
use Rattle.std.specs.List.{slice_get}
use Rattle.sudoers_text.specs.declared.token.Token.{Token}
use Rattle.sudoers_text.specs.Found.{tokens_of_line}
use Rattle.sudoers_text.specs.LineMode.{line_mode}
use Rattle.sudoers_grammar.specs.Node.{Node, Param, Setting, Scope}
use Rattle.sudoers_grammar.specs.Node as node
use Rattle.sudoers_grammar.specs.Piece.{is_parameter_name_kind}
use Rattle.sudoers_tree.specs.declared.place.Span.{Span}
use Rattle.sudoers_tree.specs.Line.{Line}
use Rattle.sudoers_defaults.specs.declared.parameter_group.ParameterGroup.{ParameterGroup}
use Rattle.sudoers_defaults.specs.declared.parameter_fault.ParameterFault.{ParameterFault}
use Rattle.sudoers_defaults.specs.declared.refused.RefusedParameter.{RefusedParameter}
use Rattle.sudoers_defaults.specs.Parameter.{fault_of_parameter}

-- the tokens from the first name of a parameter on
abbrev pub tokens_from_name : List Token → List Token
tokens_from_name [] = []
tokens_from_name (t ∷ ts) = if is_parameter_name_kind t.kind then t ∷ ts else tokens_from_name ts

-- the part that a token has of the line with this number; of no token none
abbrev pub span_of_token : ℕ → Option Token → Span
span_of_token line None = record { line = line; start = 0; stop = 0 }
span_of_token line (Some t) = record { line = line; start = t.start; stop = t.stop }

abbrev pub bytes_of_token : List ℕ → Option Token → List ℕ
bytes_of_token text None = []
bytes_of_token text (Some t) = slice_range text t.start t.stop

-- A parameter whose name is the first of these tokens; its value is the third.
abbrev pub refused_parameter : ℕ → List Token → Param → ParameterFault → RefusedParameter
refused_parameter line ts p f = record {
  name = span_of_token line (slice_get ts 0);
  value = option_map (λ (s : Setting). span_of_token line (slice_get ts 2)) p.setting;
  fault = f;
}

abbrev pub refused_if : ℕ → List Token → Param → Option ParameterFault → List RefusedParameter
refused_if line ts p None = []
refused_if line ts p (Some f) = refused_parameter line ts p f ∷ []

-- one parameter, with the tokens from its name on
abbrev pub refusals_of_parameter : List ParameterGroup → ℕ → List ℕ → Param → List Token → List RefusedParameter
refusals_of_parameter known line text p ts = refused_if line ts p (fault_of_parameter known p (bytes_of_token text (slice_get ts 2)))

-- parameters in their order, with the tokens that they and their like are made of: the next name is that of the first parameter
abbrev pub refusals_of_parameters : List ParameterGroup → ℕ → List ℕ → List Param → List Token → List RefusedParameter
refusals_of_parameters known line text [] ts = []
refusals_of_parameters known line text (p ∷ ps) ts =
    refusals_of_parameter known line text p (tokens_from_name ts) ++ refusals_of_parameters known line text ps (drop 1 (tokens_from_name ts))

abbrev pub refusals_of_node : List ParameterGroup → ℕ → List ℕ → Node → List RefusedParameter
refusals_of_node known line text (node.Defaults scope params) = refusals_of_parameters known line text params (tokens_of_line (line_mode text) text)
refusals_of_node known line text node.Blank = []
refusals_of_node known line text node.Comment = []
refusals_of_node known line text (node.Include dir path) = []
refusals_of_node known line text (node.Alias k defs) = []
refusals_of_node known line text (node.Spec users groups) = []

-- the refused parameters of lines of which the first has this number on the walk, in their order
abbrev pub refusals_of_lines : List ParameterGroup → ℕ → List Line → List RefusedParameter
refusals_of_lines known number [] = []
refusals_of_lines known number (line ∷ lines) = refusals_of_node known number line.text line.node ++ refusals_of_lines known (suc number) lines
