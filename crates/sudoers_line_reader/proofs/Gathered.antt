-- What the reader gathers token by token is what the grammar has: signs, arguments, and a command's word with its arguments.
use Rattle.std.proofs.Common.{if◌then◌else◌, ◌≡◌, ℕ, Bool, true, false, not, cond, ◌&&◌, List, [], ◌∷◌, ◌++◌, Option, Some, None, option_and_then, refl, sym, ap, ◌∙◌, append_assoc, append-nil, bytes_eq, codes}
use Rattle.std.proofs.lemmas.Bool.{and_parts}
use Rattle.std.proofs.lemmas.Option.{same_Some}
use Rattle.std.proofs.lemmas.Slice.Eq.{bytes_eq-Decides}
use Rattle.sudoers_text.specs.declared.token.TokenKind.{TokenKind}
use Rattle.sudoers_text.specs.declared.token.TokenKind.TheVariants as kind
use Rattle.sudoers_text.specs.Word.{is_name, is_reserved}
use Rattle.sudoers_grammar.specs.declared.node.Args.{Args}
use Rattle.sudoers_grammar.specs.declared.node.Args.TheVariants.{Any, Nothing, Pattern}
use Rattle.sudoers_grammar.specs.declared.node.Atom.{Atom}
use Rattle.sudoers_grammar.specs.declared.node.Atom.TheVariants as atom
use Rattle.sudoers_grammar.specs.Node.{Digest, Member}
use Rattle.sudoers_grammar.specs.declared.pattern.PatternSpelling.TheVariants.{Command}
use Rattle.sudoers_grammar.specs.declared.command_arguments.ArglessCommand.{ArglessCommand}
use Rattle.sudoers_grammar.specs.declared.command_arguments.ArglessCommand.TheVariants as program
use Rattle.sudoers_grammar.specs.Piece.{TokenWithBytes, has_first_byte, has_last_byte}
use Rattle.sudoers_grammar.specs.Pattern.{pattern_of_text}
use Rattle.sudoers_line_reader.proofs.Tokens.{some_of_first_branch_has_true_test, some_of_second_branch_has_false_test}
use Rattle.sudoers_grammar.specs.Atom.{command_atom_without_args, command_atom_with_args, command_atom_of_word, is_argument_of_empty_quotes, patterns_each_after_blank, args_of_argument_tokens}
use Rattle.sudoers_grammar.specs.Grammar.{is_odd_count_of_tokens, MayHaveDigests}
use Rattle.sudoers_grammar.specs.Arguments.{argless_command_of_atom, atom_of_command_and_args, has_digests_only_if_allowed, args_with_one_more}

-- ---- signs

-- negated so, and then by each sign
abbrev pub sign_toggled_by_each_token : Bool → List TokenWithBytes → Bool
sign_toggled_by_each_token b [] = b
sign_toggled_by_each_token b (t ∷ ts) = sign_toggled_by_each_token (not b) ts

double_negation_is_itself : (b : Bool) → b ≡ not (not b)
double_negation_is_itself true = refl
double_negation_is_itself false = refl

toggled_sign_is_told_by_odd_count : (ts : List TokenWithBytes) (b : Bool) → sign_toggled_by_each_token b ts ≡ cond b (not (is_odd_count_of_tokens ts)) (is_odd_count_of_tokens ts)
toggled_sign_is_told_by_odd_count [] true = refl
toggled_sign_is_told_by_odd_count [] false = refl
toggled_sign_is_told_by_odd_count (t ∷ ts) true = toggled_sign_is_told_by_odd_count ts false ∙ double_negation_is_itself (is_odd_count_of_tokens ts)
toggled_sign_is_told_by_odd_count (t ∷ ts) false = toggled_sign_is_told_by_odd_count ts true

-- What is not negated is negated by an odd number of signs.
pub toggled_false_is_odd_count : (ts : List TokenWithBytes) → sign_toggled_by_each_token false ts ≡ is_odd_count_of_tokens ts
toggled_false_is_odd_count ts = toggled_sign_is_told_by_odd_count ts false

-- ---- arguments

-- the arguments with these more
abbrev pub args_with_further_tokens : Args → List TokenWithBytes → Args
args_with_further_tokens args [] = args
args_with_further_tokens args (a ∷ more) = args_with_further_tokens (args_with_one_more args a.text) more

-- one pattern, and more arguments
pattern_args_append_further_patterns : (p : List ℕ) (args : List TokenWithBytes) → args_with_further_tokens (Pattern p) args ≡ Pattern (p ++ patterns_each_after_blank args)
pattern_args_append_further_patterns p [] = ap Pattern (sym (append-nil p))
pattern_args_append_further_patterns p (a ∷ args) =
    pattern_args_append_further_patterns (p ++ 32 ∷ pattern_of_text Command a.text) args
    ∙ ap Pattern (append_assoc p (32 ∷ pattern_of_text Command a.text) (patterns_each_after_blank args))

pattern_of_empty_quotes_is_quotes : (text : List ℕ) → is_argument_of_empty_quotes text ≡ true → pattern_of_text Command text ≡ 34 ∷ 34 ∷ []
pattern_of_empty_quotes_is_quotes text e =
    (bytes_eq-Decides (pattern_of_text Command text) (34 ∷ 34 ∷ [])).0
    (and_parts (has_first_byte 34 text) (bytes_eq (pattern_of_text Command text) (34 ∷ 34 ∷ [])) e).1

-- the first argument, and more
first_argument_and_others_are_pattern : (b : Bool) (p : List ℕ) (c : TokenWithBytes) (args : List TokenWithBytes) → (b ≡ true → p ≡ 34 ∷ 34 ∷ [])
    → args_with_further_tokens (cond b Nothing (Pattern p)) (c ∷ args) ≡ Pattern (p ++ patterns_each_after_blank (c ∷ args))
first_argument_and_others_are_pattern true p c args e =
    pattern_args_append_further_patterns (34 ∷ 34 ∷ 32 ∷ pattern_of_text Command c.text) args
    ∙ ap (λ (x : List ℕ). Pattern (x ++ patterns_each_after_blank (c ∷ args))) (sym (e refl))
first_argument_and_others_are_pattern false p c args e = pattern_args_append_further_patterns p (c ∷ args)

-- One by one they are what they are together.
pub args_added_one_by_one_are_all_args : (a : TokenWithBytes) (args : List TokenWithBytes) → args_with_further_tokens Any (a ∷ args) ≡ args_of_argument_tokens (a ∷ args)
args_added_one_by_one_are_all_args a [] = refl
args_added_one_by_one_are_all_args a (c ∷ args) = first_argument_and_others_are_pattern (is_argument_of_empty_quotes a.text) (pattern_of_text Command a.text) c args (pattern_of_empty_quotes_is_quotes a.text)

-- ---- a command's word

-- What can have arguments has none yet, and makes a command with any.
abbrev pub MakesCommandWithAnyArgs : TokenKind → List ℕ → Atom → ArglessCommand → Type 0
MakesCommandWithAnyArgs k text a p =
    (a ≡ atom_of_command_and_args p Any) × ((args : Args) → has_last_byte 47 text ≡ false → command_atom_with_args k text args ≡ Some (atom_of_command_and_args p args))

path_makes_command_with_any_args : (text : List ℕ) (a : Atom) (p : ArglessCommand) → command_atom_without_args kind.Path text ≡ Some a → argless_command_of_atom a ≡ Some p → MakesCommandWithAnyArgs kind.Path text a p
unfolding command_atom_without_args command_atom_with_args
path_makes_command_with_any_args text a p e f =
    let same : program.Path (pattern_of_text Command text) ≡ p = same_Some (program.Path (pattern_of_text Command text)) p (ap (option_and_then argless_command_of_atom) e ∙ f) in (
      sym (same_Some (atom.Path (pattern_of_text Command text) Any) a e) ∙ ap (λ (q : ArglessCommand). atom_of_command_and_args q Any) same,
      λ args last. rw last (ap (λ (q : ArglessCommand). Some (atom_of_command_and_args q args)) same),
    )

-- the tests of a command's word
abbrev command_atom_by_word_tests : Bool → Bool → Bool → Bool → List ℕ → Option Atom
command_atom_by_word_tests all listing sudoedit alias text =
    cond all (Some atom.All) (cond listing (Some atom.Listing) (cond sudoedit (Some (atom.Sudoedit Any)) (cond alias (Some (atom.Alias text)) None)))

argless_command_of_word_is_sudoedit : (all listing sudoedit alias : Bool) (text : List ℕ) (a : Atom) (p : ArglessCommand) → command_atom_by_word_tests all listing sudoedit alias text ≡ Some a
    → option_and_then argless_command_of_atom (command_atom_by_word_tests all listing sudoedit alias text) ≡ Some p → (sudoedit ≡ true) × (atom.Sudoedit Any ≡ a) × (program.Sudoedit ≡ p)
argless_command_of_word_is_sudoedit true listing sudoedit alias text a p e f = absurd cc
argless_command_of_word_is_sudoedit false true sudoedit alias text a p e f = absurd cc
argless_command_of_word_is_sudoedit false false true alias text a p e f = (refl, same_Some (atom.Sudoedit Any) a e, same_Some program.Sudoedit p f)
argless_command_of_word_is_sudoedit false false false true text a p e f = absurd cc
argless_command_of_word_is_sudoedit false false false false text a p e f = absurd cc

word_makes_command_with_any_args : (text : List ℕ) (a : Atom) (p : ArglessCommand) → command_atom_without_args kind.Word text ≡ Some a → argless_command_of_atom a ≡ Some p → MakesCommandWithAnyArgs kind.Word text a p
unfolding command_atom_without_args command_atom_with_args
word_makes_command_with_any_args text a p e f =
    let alias : Bool = is_name text && not (is_reserved text) in
    let w = argless_command_of_word_is_sudoedit (bytes_eq text (codes "ALL")) (bytes_eq text (codes "list")) (bytes_eq text (codes "sudoedit")) alias text a p e (ap (option_and_then argless_command_of_atom) e ∙ f) in (
      sym w.1 ∙ ap (λ (q : ArglessCommand). atom_of_command_and_args q Any) w.2,
      λ args last. rw w.0 (ap (λ (q : ArglessCommand). Some (atom_of_command_and_args q args)) w.2),
    )

pub token_makes_command_with_any_args : (k : TokenKind) (text : List ℕ) (a : Atom) (p : ArglessCommand) → command_atom_without_args k text ≡ Some a → argless_command_of_atom a ≡ Some p → MakesCommandWithAnyArgs k text a p
unfolding command_atom_without_args
token_makes_command_with_any_args kind.Word text a p e f = word_makes_command_with_any_args text a p e f
token_makes_command_with_any_args kind.Path text a p e f = path_makes_command_with_any_args text a p e f
token_makes_command_with_any_args k text a p e f = absurd cc

-- ---- a command's word by its program

-- what a command with arguments is without them
pub record HasArglessCommandOfWord (k : TokenKind) (text : List ℕ) (args : Args) (a : Atom) : Type 0 where
  pub named : ArglessCommand
  pub bare : command_atom_without_args k text ≡ Some (atom_of_command_and_args named Any)
  pub made : atom_of_command_and_args named args ≡ a
  pub takes : (if has_last_byte 47 text then None else argless_command_of_atom (atom_of_command_and_args named Any)) ≡ Some named

pub command_with_args_has_argless_command : (k : TokenKind) (text : List ℕ) (args : Args) (a : Atom) → command_atom_with_args k text args ≡ Some a → HasArglessCommandOfWord k text args a
unfolding command_atom_with_args command_atom_without_args
command_with_args_has_argless_command kind.Word text args a e =
    let f = some_of_first_branch_has_true_test (bytes_eq text (codes "sudoedit")) (Some (atom.Sudoedit args)) a e in
    let same : text ≡ codes "sudoedit" = (bytes_eq-Decides text (codes "sudoedit")).0 f.0 in
    record {
      named = program.Sudoedit;
      bare = ap command_atom_of_word same;
      made = same_Some (atom.Sudoedit args) a f.1;
      takes = ap (λ (x : List ℕ). if has_last_byte 47 x then None else Some program.Sudoedit) same;
    }
command_with_args_has_argless_command kind.Path text args a e =
    let f = some_of_second_branch_has_false_test (has_last_byte 47 text) (Some (atom.Path (pattern_of_text Command text) args)) a e in
    record {
      named = program.Path (pattern_of_text Command text);
      bare = refl;
      made = same_Some (atom.Path (pattern_of_text Command text) args) a f.1;
      takes = ap (λ (b : Bool). if b then None else Some (program.Path (pattern_of_text Command text))) f.0;
    }
command_with_args_has_argless_command k text args a e = absurd cc

-- ---- what suits digests

-- A program suits digests or not, whatever its arguments are.
pub allowed_digests_ignore_arguments : (ds : List Digest) (p : ArglessCommand) (before args : Args) → has_digests_only_if_allowed ds (atom_of_command_and_args p before) ≡ true → has_digests_only_if_allowed ds (atom_of_command_and_args p args) ≡ true
allowed_digests_ignore_arguments [] p before args e = refl
allowed_digests_ignore_arguments (d ∷ ds) (program.Path path) before args e = refl
allowed_digests_ignore_arguments (d ∷ ds) program.Sudoedit before args e = e

-- The reader and the grammar say the same of it.
pub member_with_digests_is_allowed_them : (ds : List Digest) (m : Member) → MayHaveDigests ds m → has_digests_only_if_allowed ds m.atom ≡ true
member_with_digests_is_allowed_them [] m h = refl
member_with_digests_is_allowed_them (d ∷ ds) m h = h

pub allowed_digests_may_be_had_by_member : (ds : List Digest) (m : Member) → has_digests_only_if_allowed ds m.atom ≡ true → MayHaveDigests ds m
allowed_digests_may_be_had_by_member [] m h = tt
allowed_digests_may_be_had_by_member (d ∷ ds) m h = h
