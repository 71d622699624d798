-- A line of aliases with the bytes of one more member reads as before but for that one.
use Rattle.std.proofs.Common.{◌≡◌, ℕ, List, [], ◌∷◌, ◌++◌, length, refl, sym, ap, subst, ◌∙◌, arith, append_assoc, Some}
use Rattle.std.proofs.lemmas.List.{length-append, map-append}
use Rattle.sudoers_text.specs.declared.part.ByteRunKind.TheVariants as rule
use Rattle.sudoers_text.specs.declared.token.Token.{Token}
use Rattle.sudoers_text.specs.declared.token.Mode.{Mode}
use Rattle.sudoers_text.specs.declared.token.Mode.TheVariants as mode
use Rattle.sudoers_text.specs.declared.context.TokenContext.TheVariants as context
use Rattle.sudoers_text.specs.Part.{leading_run_size}
use Rattle.sudoers_text.specs.LineMode.{line_mode}
use Rattle.sudoers_text.specs.Renamed.{tokens_after_replacement}
use Rattle.sudoers_text.specs.Token.{AreTokensFrom, HasTokens}
use Rattle.sudoers_grammar.specs.declared.node.Kind.{Kind}
use Rattle.sudoers_grammar.specs.Node.{Def}
use Rattle.sudoers_grammar.specs.Node as node
use Rattle.sudoers_grammar.specs.Piece.{TokenWithBytes, token_with_bytes, tokens_with_bytes, alias_kind_of_token}
use Rattle.sudoers_grammar.specs.Grammar.{Separated, IsDef, IsEnd}
use Rattle.sudoers_grammar.specs.Line.{LineReadsAsNode}
use Rattle.sudoers_edit.specs.internal.Plain.{ArePlainBytes}
use Rattle.sudoers_edit.proofs.TokensBefore.{stop_of_tokens, tokens_before_place_keep}
use Rattle.sudoers_edit.proofs.TokensBehind.{tokens_behind_place_are_moved, slice_before_place_keeps}
use Rattle.sudoers_edit.proofs.TokenFronts.{IsTokenAlike, AreTokensAlike, EndsAt, alike_tokens_split}
use Rattle.sudoers_edit.proofs.TokenCuts.{CanSwapTokens}
use Rattle.sudoers_edit.proofs.TokenGains.{AreNone}
use Rattle.sudoers_edit.proofs.AliasHeads.{BeginsWordAliases, first_token_is_head}
use Rattle.sudoers_edit.proofs.CutLines.{image_in_parts_splits, tokens_stop_where_they_end, tokens_begin_behind_those_before, tokens_before_place_are_alike, tokens_behind_place_are_alike, alike_end_is_end, alike_token_has_same_alias_kind}

-- These tokens stand at a place of a line of words, before whatever tokens stand behind them.
abbrev pub StandBeforeOthers : List ℕ → ℕ → List Token → ℕ → Type 0
StandBeforeOthers line at new stop = (us : List Token) → AreTokensFrom context.Words line stop us → AreTokensFrom context.Words line at (new ++ us)

by_first_token : (front w r : List ℕ) (head : List ℕ) (k : Kind) (Good : List Def → Type 0) (new : List Token) → BeginsWordAliases head → ArePlainBytes (head ++ front) → ArePlainBytes r
    → leading_run_size rule.Word (r ++ 10 ∷ []) ≡ 0 → leading_run_size rule.Word (w ++ (r ++ 10 ∷ [])) ≡ 0
    → StandBeforeOthers ((head ++ front) ++ (w ++ (r ++ 10 ∷ []))) (length (head ++ front)) new (length ((head ++ front) ++ w))
    → (t : Token) (ts : List Token) (rest : List TokenWithBytes) → alias_kind_of_token (token_with_bytes ((head ++ front) ++ (r ++ 10 ∷ [])) t) ≡ Some k → IsEnd rest
    → CanSwapTokens (length (head ++ front)) (tokens_with_bytes ((head ++ front) ++ (w ++ (r ++ 10 ∷ []))) new) AreNone (Separated 58 (IsDef k)) Good (length (head ++ front))
    (tokens_with_bytes ((head ++ front) ++ (r ++ 10 ∷ [])) ts) rest
    → AreTokensFrom (context.First mode.Words) (head ++ (front ++ (r ++ 10 ∷ []))) 0 (t ∷ ts)
    → (others : List Def) × LineReadsAsNode ((head ++ front) ++ (w ++ (r ++ 10 ∷ []))) (node.Alias k others) × Good others
by_first_token front w r head k Good new begins plain plain_rest run_rest run_new stand t ts rest is_kind end c has =
    let p : List ℕ = head ++ front in
    let s : List ℕ = r ++ 10 ∷ [] in
    let old : List ℕ = p ++ s in
    let line : List ℕ = p ++ (w ++ s) in
    let h = first_token_is_head head (front ++ s) t ts begins has in
    let parts : tokens_with_bytes old ts ≡ c.left ++ (c.right ++ rest) = c.split ∙ ap (λ (gone : List TokenWithBytes). c.left ++ (gone ++ (c.right ++ rest))) c.gone_is in
    let a = image_in_parts_splits (token_with_bytes old) ts c.left (c.right ++ rest) parts in
    let later : AreTokensFrom context.Words old t.stop ts = subst (λ (l : List ℕ). AreTokensFrom context.Words l t.stop ts) (sym (append_assoc head front s)) h.later in
    let are : AreTokensFrom context.Words old t.stop (a.first ++ a.second) = subst (λ (us : List Token). AreTokensFrom context.Words old t.stop us) a.split later in
    let stop_a : stop_of_tokens t.stop a.first ≡ length p =
    tokens_stop_where_they_end old a.first t.stop (length p) (subst (λ (us : List TokenWithBytes). EndsAt us (length p)) (sym a.one) c.begins) in
    let are_c : AreTokensFrom context.Words old (length p) a.second =
    subst (λ (n : ℕ). AreTokensFrom context.Words old n a.second) stop_a (tokens_begin_behind_those_before a.first a.second old t.stop are) in
    let moved : List Token = tokens_after_replacement (length p) (length (p ++ w)) a.second in
    let behind : AreTokensFrom context.Words line (length (p ++ w)) moved =
    subst (λ (l : List ℕ). AreTokensFrom context.Words l (length (p ++ w)) moved) (append_assoc p w s)
    (tokens_behind_place_are_moved p (p ++ w) r plain_rest a.second (length p) 0 (length (p ++ w)) (omega arith) (omega arith) are_c) in
    let keep : AreTokensFrom context.Words line t.stop (a.first ++ (new ++ moved)) =
    tokens_before_place_keep p s (w ++ s) plain run_rest run_new a.first a.second (new ++ moved) t.stop stop_a are (stand moved behind) in
    let tokens : List Token = t ∷ (a.first ++ (new ++ moved)) in
    let all : AreTokensFrom (context.First mode.Words) (head ++ (front ++ (w ++ s))) 0 tokens =
    h.again (front ++ (w ++ s)) (a.first ++ (new ++ moved)) (subst (λ (l : List ℕ). AreTokensFrom context.Words l t.stop (a.first ++ (new ++ moved))) (append_assoc head front (w ++ s)) keep) in
    let read_as : line_mode line ≡ mode.Words = ap line_mode (append_assoc head front (w ++ s)) ∙ begins.read_as (front ++ (w ++ s)) in
    let has_tokens : HasTokens (line_mode line) line tokens =
    subst (λ (m : Mode). HasTokens m line tokens) (sym read_as)
    (subst (λ (l : List ℕ). AreTokensFrom (context.First mode.Words) l 0 tokens) (sym (append_assoc head front (w ++ s))) all) in
    let alike_a : AreTokensAlike (length p) c.left (tokens_with_bytes line a.first) =
    subst (λ (us : List TokenWithBytes). AreTokensAlike (length p) us (tokens_with_bytes line a.first)) a.one
    (tokens_before_place_are_alike (length p) p s (w ++ s) a.first a.second t.stop (omega (arith, stop_a)) are) in
    let alike_c : AreTokensAlike (length p) (c.right ++ rest) (tokens_with_bytes line moved) =
    subst (λ (us : List TokenWithBytes). AreTokensAlike (length p) us (tokens_with_bytes line moved)) a.other
    (subst (λ (l : List ℕ). AreTokensAlike (length p) (tokens_with_bytes old a.second) (tokens_with_bytes l moved)) (append_assoc p w s)
    (tokens_behind_place_are_alike p (p ++ w) s (length p) (omega arith) a.second (length p) 0 (omega arith) are_c)) in
    let sp = alike_tokens_split (length p) c.right rest (tokens_with_bytes line moved) alike_c in
    let y = c.again (tokens_with_bytes line a.first) sp.first sp.second alike_a sp.one in
    let word : IsTokenAlike (length p) (token_with_bytes old t) (token_with_bytes line t) = record {
      kind = refl;
      text = sym (slice_before_place_keeps p s (w ++ s) t.start t.stop h.some (omega (arith, h.inside, length-append head front)));
      stop = λ near. refl;
    } in
    let split : tokens_with_bytes line (a.first ++ (new ++ moved)) ≡ tokens_with_bytes line a.first ++ (tokens_with_bytes line new ++ (sp.first ++ sp.second)) =
    map-append (token_with_bytes line) a.first (new ++ moved)
    ∙ ap (λ (us : List TokenWithBytes). tokens_with_bytes line a.first ++ us) (map-append (token_with_bytes line) new moved ∙ ap (λ (us : List TokenWithBytes). tokens_with_bytes line new ++ us) sp.split) in (
      y.0,
      record {
        tokens = tokens;
        has = has_tokens;
        reads = (
          sp.second,
          record {
            word = token_with_bytes line t;
            behind = tokens_with_bytes line a.first ++ (tokens_with_bytes line new ++ (sp.first ++ sp.second));
            split = ap (λ (us : List TokenWithBytes). token_with_bytes line t ∷ us) split;
            is_kind = alike_token_has_same_alias_kind (length p) (token_with_bytes old t) (token_with_bytes line t) word ∙ is_kind;
            defs = y.1;
          },
          alike_end_is_end (length p) rest sp.second sp.other end,
        );
      },
      y.2,
    )

-- With new tokens in the bytes w such a line reads as before but for what they say.
pub line_with_bytes_reads : (front w r : List ℕ) (head : List ℕ) (k : Kind) (defs : List Def) (Good : List Def → Type 0) (new : List Token) → BeginsWordAliases head → ArePlainBytes (head ++ front) → ArePlainBytes r
    → leading_run_size rule.Word (r ++ 10 ∷ []) ≡ 0 → leading_run_size rule.Word (w ++ (r ++ 10 ∷ [])) ≡ 0
    → StandBeforeOthers ((head ++ front) ++ (w ++ (r ++ 10 ∷ []))) (length (head ++ front)) new (length ((head ++ front) ++ w))
    → ((ts rest : List TokenWithBytes) → Separated 58 (IsDef k) ts defs rest
    → CanSwapTokens (length (head ++ front)) (tokens_with_bytes ((head ++ front) ++ (w ++ (r ++ 10 ∷ []))) new) AreNone (Separated 58 (IsDef k)) Good (length (head ++ front)) ts rest)
    → LineReadsAsNode ((head ++ front) ++ (r ++ 10 ∷ [])) (node.Alias k defs)
    → (others : List Def) × LineReadsAsNode ((head ++ front) ++ (w ++ (r ++ 10 ∷ []))) (node.Alias k others) × Good others
line_with_bytes_reads front w r head k defs Good new begins plain plain_rest run_rest run_new stand gain is =
    by_tokens is.tokens is.reads.1.split
    (subst (λ (l : List ℕ). AreTokensFrom (context.First mode.Words) l 0 is.tokens) (append_assoc head front (r ++ 10 ∷ []))
    (subst (λ (m : Mode). HasTokens m ((head ++ front) ++ (r ++ 10 ∷ [])) is.tokens) (ap line_mode (append_assoc head front (r ++ 10 ∷ [])) ∙ begins.read_as (front ++ (r ++ 10 ∷ []))) is.has))
  where
    by_tokens : (tokens : List Token) → tokens_with_bytes ((head ++ front) ++ (r ++ 10 ∷ [])) tokens ≡ is.reads.1.word ∷ is.reads.1.behind
        → AreTokensFrom (context.First mode.Words) (head ++ (front ++ (r ++ 10 ∷ []))) 0 tokens
        → (others : List Def) × LineReadsAsNode ((head ++ front) ++ (w ++ (r ++ 10 ∷ []))) (node.Alias k others) × Good others
    by_tokens [] e has = absurd (cc)
    by_tokens (t ∷ ts) e has =
        let line : List ℕ = (head ++ front) ++ (r ++ 10 ∷ []) in
        let word : token_with_bytes line t ≡ is.reads.1.word = cc in
        let behind : tokens_with_bytes line ts ≡ is.reads.1.behind = cc in
        by_first_token front w r head k Good new begins plain plain_rest run_rest run_new stand t ts is.reads.0 (ap alias_kind_of_token word ∙ is.reads.1.is_kind) is.reads.2
        (gain (tokens_with_bytes line ts) is.reads.0 (subst (λ (us : List TokenWithBytes). Separated 58 (IsDef k) us defs is.reads.0) (sym behind) is.reads.1.defs)) has
