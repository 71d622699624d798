use Rattle.std.proofs.Common.{◌≡◌, ◌⊎◌, inl, inr, ℕ, [], ◌∷◌, ap}
use Rattle.sudoers_grammar.specs.declared.pattern.PatternSpelling.{PatternSpelling}
use Rattle.sudoers_grammar.specs.declared.pattern.PatternSpelling.TheVariants as spelling
use Rattle.sudoers_grammar.specs.Pattern.{pattern_of_byte}
use Rattle.sudoers_grammar.proofs.Patterns.{bytes_before_backslash_are_their_pattern}
use Rattle.sudoers_grammar.proofs.pattern.verbatim_prefix_len.Goals as goal

-- out of quotes a byte is its own pattern
own : (s : PatternSpelling) → (s ≡ spelling.Command) ⊎ (s ≡ spelling.Host) → (b : ℕ) → pattern_of_byte s b ≡ b ∷ []
own s (inl is) b = ap (λ (t : PatternSpelling). pattern_of_byte t b) is
own s (inr is) b = ap (λ (t : PatternSpelling). pattern_of_byte t b) is

pub returns-in-Command : goal.returns-in-Command
returns-in-Command c =
    let found = c.find_first_backslash.ensures in
    record {
      within = found.inside;
      plain = bytes_before_backslash_are_their_pattern c.args.spelling (own c.args.spelling c.in-Command.is) c.args.text.now c.find_first_backslash.result found.inside found.before;
    }
