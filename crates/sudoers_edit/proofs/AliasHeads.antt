-- Lines that begin with `User_Alias`, `Runas_Alias` or `Host_Alias` and a blank.
use Rattle.std.proofs.Common.{◌≡◌, ℕ, ◌+◌, ◌-◌, ◌≤◌, ◌<◌, false, List, ◌∷◌, ◌++◌, length, take, drop, refl, sym, ap, subst, ◌∙◌, arith, codes}
use Rattle.sudoers_text.specs.declared.token.TokenKind.{TokenKind}
use Rattle.sudoers_text.specs.declared.token.TokenKind.TheVariants as kind
use Rattle.sudoers_text.specs.declared.token.Token.{Token}
use Rattle.sudoers_text.specs.declared.token.Mode.TheVariants as mode
use Rattle.sudoers_text.specs.declared.context.TokenContext.{TokenContext}
use Rattle.sudoers_text.specs.declared.context.TokenContext.TheVariants as context
use Rattle.sudoers_text.specs.Unit.{LineUnit}
use Rattle.sudoers_text.specs.Part.{leading_run_size}
use Rattle.sudoers_text.specs.LineMode.{line_mode}
use Rattle.sudoers_text.specs.Context.{token_forms_in_context, context_after_token}
use Rattle.sudoers_text.specs.Found.{kind_and_size_after_units, hash_include_size_at, numeric_id_size, hash_id_size, non_unix_group_size}
use Rattle.sudoers_text.specs.Token.{units_left_of_place, leading_gap_size, is_line_end_or_empty, AreTokensFrom}
use Rattle.sudoers_text.proofs.TokenLists.{found_token_before_tokens_is_token_list}
use Rattle.sudoers_edit.proofs.TokensBefore.{plain_byte_is_no_line_end, first_token_is_found}

-- With these bytes begins a line of aliases of words. The first n are its first token.
pub record BeginsWordAliases (head : List ℕ) : Type 0 where
  pub n : ℕ
  pub inside : n ≤ length head
  pub read_as : (rest : List ℕ) → line_mode (head ++ rest) ≡ mode.Words
  pub gap : (rest : List ℕ) → leading_gap_size (head ++ rest) ≡ 0
  pub more : (rest : List ℕ) → is_line_end_or_empty (head ++ rest) ≡ false
  pub found : (units : List LineUnit) (rest : List ℕ) → kind_and_size_after_units (token_forms_in_context (context.First mode.Words)) units (head ++ rest) ≡ (kind.Word, n)
  pub behind : (rest : List ℕ) → context_after_token (context.First mode.Words) kind.Word (take n (head ++ rest)) (drop n (head ++ rest)) ≡ context.Words

pub user_head_begins_aliases : BeginsWordAliases (codes "User_Alias ")
unfolding line_mode leading_run_size hash_include_size_at numeric_id_size hash_id_size non_unix_group_size
user_head_begins_aliases = record {
  n = 10;
  inside = omega arith;
  read_as = λ rest. refl;
  gap = λ rest. refl;
  more = λ rest. plain_byte_is_no_line_end 85 (drop 1 (codes "User_Alias ") ++ rest) refl;
  found = λ units rest. refl;
  behind = λ rest. refl;
}

pub runas_head_begins_aliases : BeginsWordAliases (codes "Runas_Alias ")
unfolding line_mode leading_run_size hash_include_size_at numeric_id_size hash_id_size non_unix_group_size
runas_head_begins_aliases = record {
  n = 11;
  inside = omega arith;
  read_as = λ rest. refl;
  gap = λ rest. refl;
  more = λ rest. plain_byte_is_no_line_end 82 (drop 1 (codes "Runas_Alias ") ++ rest) refl;
  found = λ units rest. refl;
  behind = λ rest. refl;
}

pub host_head_begins_aliases : BeginsWordAliases (codes "Host_Alias ")
unfolding line_mode leading_run_size hash_include_size_at numeric_id_size hash_id_size non_unix_group_size
host_head_begins_aliases = record {
  n = 10;
  inside = omega arith;
  read_as = λ rest. refl;
  gap = λ rest. refl;
  more = λ rest. plain_byte_is_no_line_end 72 (drop 1 (codes "Host_Alias ") ++ rest) refl;
  found = λ units rest. refl;
  behind = λ rest. refl;
}

-- the first token of such a line, and those behind it
pub record BeginsWithHeadToken (head rest : List ℕ) (t : Token) (ts : List Token) : Type 0 where
  pub some : t.start < t.stop
  pub inside : t.stop ≤ length head
  pub later : AreTokensFrom context.Words (head ++ rest) t.stop ts
  pub again : (other : List ℕ) (us : List Token) → AreTokensFrom context.Words (head ++ other) t.stop us → AreTokensFrom (context.First mode.Words) (head ++ other) 0 (t ∷ us)

pub first_token_is_head : (head rest : List ℕ) (t : Token) (ts : List Token) → BeginsWordAliases head → AreTokensFrom (context.First mode.Words) (head ++ rest) 0 (t ∷ ts)
    → BeginsWithHeadToken head rest t ts
first_token_is_head head rest t ts is are =
    let zero_start : t.start ≡ 0 = omega (arith, are.0, is.gap rest) in
    let found : (t.kind, t.stop - t.start) ≡ (kind.Word, is.n) =
    first_token_is_found (context.First mode.Words) (head ++ rest) 0 t ts are
    ∙ ap (λ (n : ℕ). kind_and_size_after_units (token_forms_in_context (context.First mode.Words)) (units_left_of_place (head ++ rest) n) (drop n (head ++ rest))) zero_start
    ∙ is.found (units_left_of_place (head ++ rest) 0) rest in
    let kind_is : t.kind ≡ kind.Word = ap (λ (p : TokenKind × ℕ). p.0) found in
    let size_is : t.stop - t.start ≡ is.n = ap (λ (p : TokenKind × ℕ). p.1) found in
    let stop_is : t.stop ≡ 0 + is.n = omega (arith, zero_start, size_is) in
    record {
      some = are.2;
      inside = omega (arith, stop_is, is.inside);
      later =
          subst (λ (c : TokenContext). AreTokensFrom c (head ++ rest) t.stop ts) (is.behind rest)
          (subst (λ (p : TokenKind × (ℕ × ℕ)). AreTokensFrom (context_after_token (context.First mode.Words) p.0 (take p.1.0 (drop p.1.1 (head ++ rest))) (drop p.1.0 (drop p.1.1 (head ++ rest)))) (head ++ rest) t.stop ts)
          (λ j. (kind_is j, (size_is j, zero_start j))) are.4);
      again =
          λ other us later. subst (λ (w : Token). AreTokensFrom (context.First mode.Words) (head ++ other) 0 (w ∷ us))
          (λ j. record { kind = sym kind_is j; start = sym zero_start j; stop = sym stop_is j })
          (found_token_before_tokens_is_token_list (context.First mode.Words) (head ++ other) 0 0 kind.Word is.n us (omega (arith, is.gap other)) (is.more other)
          (sym (is.found (units_left_of_place (head ++ other) 0) other))
          (subst (λ (c : TokenContext). AreTokensFrom c (head ++ other) (0 + is.n) us) (sym (is.behind other))
          (subst (λ (n : ℕ). AreTokensFrom context.Words (head ++ other) n us) stop_is later)));
    }
