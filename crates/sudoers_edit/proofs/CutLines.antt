-- A line of aliases without the bytes of a definition or a member reads as before but for that one.
use Rattle.std.proofs.Common.{◌≡◌, ℕ, ◌+◌, ◌-◌, ◌≤◌, List, [], ◌∷◌, ◌++◌, map, length, refl, sym, ap, subst, ◌∙◌, arith, append_assoc, Some}
use Rattle.std.proofs.lemmas.List.{length-append, map-append}
use Rattle.sudoers_text.specs.declared.part.ByteRunKind.TheVariants as rule
use Rattle.sudoers_text.specs.declared.token.Token.{Token}
use Rattle.sudoers_text.specs.declared.token.Mode.{Mode}
use Rattle.sudoers_text.specs.declared.token.Mode.TheVariants as mode
use Rattle.sudoers_text.specs.declared.context.TokenContext.TheVariants as context
use Rattle.sudoers_text.specs.Part.{leading_run_size}
use Rattle.sudoers_text.specs.LineMode.{line_mode}
use Rattle.sudoers_text.specs.Renamed.{tokens_after_replacement}
use Rattle.sudoers_text.specs.Token.{AreTokensFrom, HasTokens}
use Rattle.sudoers_grammar.specs.declared.node.Kind.{Kind}
use Rattle.sudoers_grammar.specs.Node.{Def}
use Rattle.sudoers_grammar.specs.Node as node
use Rattle.sudoers_grammar.specs.Piece.{TokenWithBytes, token_with_bytes, tokens_with_bytes, is_comment, alias_kind_of_token}
use Rattle.sudoers_grammar.specs.Grammar.{Separated, IsDef, IsEnd}
use Rattle.sudoers_grammar.specs.Line.{LineReadsAsNode}
use Rattle.sudoers_edit.specs.internal.Plain.{ArePlainBytes}
use Rattle.sudoers_edit.proofs.TokensBefore.{stop_of_tokens, tokens_end_no_earlier, tokens_before_place_keep}
use Rattle.sudoers_edit.proofs.TokensBehind.{tokens_behind_place_are_moved, slice_before_place_keeps, slice_behind_place_is_moved}
use Rattle.sudoers_edit.proofs.TokenFronts.{IsTokenAlike, AreTokensAlike, EndsAt, alike_tokens_split}
use Rattle.sudoers_edit.proofs.TokenCuts.{CanLoseTokens}
use Rattle.sudoers_edit.proofs.AliasHeads.{BeginsWordAliases, first_token_is_head}

-- a list whose image falls into two parts
pub record IsSplitImage {X Y : Type 0} (f : X → Y) (xs : List X) (a b : List Y) : Type 0 where
  pub first : List X
  pub second : List X
  pub split : xs ≡ first ++ second
  pub one : map f first ≡ a
  pub other : map f second ≡ b

pub image_in_parts_splits : {X Y : Type 0} (f : X → Y) (xs : List X) (a b : List Y) → map f xs ≡ a ++ b → IsSplitImage f xs a b
image_in_parts_splits f xs [] b e = record { first = []; second = xs; split = refl; one = refl; other = e }
image_in_parts_splits f [] (y ∷ a) b e = absurd (cc)
image_in_parts_splits {X} {Y} f (x ∷ xs) (y ∷ a) b e =
    let here : f x ≡ y = cc in
    let later : map f xs ≡ a ++ b = cc in
    let s = image_in_parts_splits f xs a b later in
    record {
      first = x ∷ s.first;
      second = s.second;
      split = ap (λ (zs : List X). x ∷ zs) s.split;
      one = ap (λ (z : Y). z ∷ map f s.first) here ∙ ap (λ (zs : List Y). y ∷ zs) s.one;
      other = s.other;
    }

pub tokens_stop_where_they_end : (line : List ℕ) (ts : List Token) (at stop : ℕ) → EndsAt (tokens_with_bytes line ts) stop → stop_of_tokens at ts ≡ stop
tokens_stop_where_they_end line [] at stop ends = absurd ends
tokens_stop_where_they_end line (t ∷ []) at stop ends = ends
tokens_stop_where_they_end line (t ∷ u ∷ ts) at stop ends = tokens_stop_where_they_end line (u ∷ ts) t.stop stop ends

pub tokens_begin_behind_those_before : (ts us : List Token) (line : List ℕ) (at : ℕ) → AreTokensFrom context.Words line at (ts ++ us) → AreTokensFrom context.Words line (stop_of_tokens at ts) us
tokens_begin_behind_those_before [] us line at are = are
tokens_begin_behind_those_before (t ∷ ts) us line at are = tokens_begin_behind_those_before ts us line t.stop are.4

pub tokens_before_place_are_alike : (limit : ℕ) (p s o : List ℕ) (ts us : List Token) (at : ℕ) → stop_of_tokens at ts ≤ length p → AreTokensFrom context.Words (p ++ s) at (ts ++ us)
    → AreTokensAlike limit (tokens_with_bytes (p ++ s) ts) (tokens_with_bytes (p ++ o) ts)
tokens_before_place_are_alike limit p s o [] us at inside are = tt
tokens_before_place_are_alike limit p s o (t ∷ ts) us at inside are = (
  record {
    kind = refl;
    text = sym (slice_before_place_keeps p s o t.start t.stop are.2 (omega (arith, inside, tokens_end_no_earlier ts us (p ++ s) t.stop are.4)));
    stop = λ near. refl;
  },
  tokens_before_place_are_alike limit p s o ts us t.stop inside are.4,
)

pub tokens_behind_place_are_alike : (p o s : List ℕ) (limit : ℕ) → limit ≤ length p → (ts : List Token) (n c : ℕ) → n ≡ length p + c → AreTokensFrom context.Words (p ++ s) n ts
    → AreTokensAlike limit (tokens_with_bytes (p ++ s) ts) (tokens_with_bytes (o ++ s) (tokens_after_replacement (length p) (length o) ts))
tokens_behind_place_are_alike p o s limit below [] n c e are = tt
tokens_behind_place_are_alike p o s limit below (t ∷ ts) n c e are = (
  record {
    kind = refl;
    text = sym (slice_behind_place_is_moved p o s t.start t.stop (t.start - length p) (omega (arith, e, are.0)) are.2);
    stop = λ near. absurd (omega (arith, near, e, below, are.0, are.2));
  },
  tokens_behind_place_are_alike p o s limit below ts t.stop (t.stop - length p) (omega (arith, e, are.0, are.2)) are.4,
)

pub alike_end_is_end : (limit : ℕ) (ts us : List TokenWithBytes) → AreTokensAlike limit ts us → IsEnd ts → IsEnd us
alike_end_is_end limit [] [] alike end = tt
alike_end_is_end limit [] (u ∷ us) alike end = absurd alike
alike_end_is_end limit (t ∷ ts) [] alike end = absurd alike
alike_end_is_end limit (t ∷ []) (u ∷ []) alike end = ap is_comment alike.0.kind ∙ end
alike_end_is_end limit (t ∷ []) (u ∷ v ∷ us) alike end = absurd alike.1
alike_end_is_end limit (t ∷ s ∷ ts) us alike end = absurd end

pub alike_token_has_same_alias_kind : (limit : ℕ) (t u : TokenWithBytes) → IsTokenAlike limit t u → alias_kind_of_token u ≡ alias_kind_of_token t
unfolding alias_kind_of_token
alike_token_has_same_alias_kind limit t u alike = rw (alike.kind, alike.text) refl

-- ---- the line

-- The tokens of a line behind its first, of which some can go.
by_first_token : (p' g r : List ℕ) (head : List ℕ) (k : Kind) (defs : List Def) (Good : List Def → Type 0) → BeginsWordAliases head → ArePlainBytes (head ++ p') → ArePlainBytes r
    → leading_run_size rule.Word (g ++ (r ++ 10 ∷ [])) ≡ 0 → leading_run_size rule.Word (r ++ 10 ∷ []) ≡ 0
    → (t : Token) (ts : List Token) (rest : List TokenWithBytes) → alias_kind_of_token (token_with_bytes ((head ++ p') ++ (g ++ (r ++ 10 ∷ []))) t) ≡ Some k → IsEnd rest
    → CanLoseTokens (length (head ++ p')) (Separated 58 (IsDef k)) Good (length (head ++ p')) (length ((head ++ p') ++ g)) (tokens_with_bytes ((head ++ p') ++ (g ++ (r ++ 10 ∷ []))) ts) rest
    → AreTokensFrom (context.First mode.Words) (head ++ (p' ++ (g ++ (r ++ 10 ∷ [])))) 0 (t ∷ ts)
    → (others : List Def) × LineReadsAsNode ((head ++ p') ++ (r ++ 10 ∷ [])) (node.Alias k others) × Good others
by_first_token p' g r head k defs Good begins plain plain_rest seam seam_left t ts rest is_kind end c has =
    let p : List ℕ = head ++ p' in
    let s : List ℕ = r ++ 10 ∷ [] in
    let line : List ℕ = p ++ (g ++ s) in
    let new : List ℕ = p ++ s in
    let h = first_token_is_head head (p' ++ (g ++ s)) t ts begins has in
    let a = image_in_parts_splits (token_with_bytes line) ts c.left (c.gone ++ (c.right ++ rest)) c.split in
    let b = image_in_parts_splits (token_with_bytes line) a.second c.gone (c.right ++ rest) a.other in
    let parts : ts ≡ a.first ++ (b.first ++ b.second) = a.split ∙ ap (λ (us : List Token). a.first ++ us) b.split in
    let later : AreTokensFrom context.Words line t.stop ts = subst (λ (l : List ℕ). AreTokensFrom context.Words l t.stop ts) (sym (append_assoc head p' (g ++ s))) h.later in
    let are : AreTokensFrom context.Words line t.stop (a.first ++ (b.first ++ b.second)) = subst (λ (us : List Token). AreTokensFrom context.Words line t.stop us) parts later in
    let stop_a : stop_of_tokens t.stop a.first ≡ length p =
    tokens_stop_where_they_end line a.first t.stop (length p) (subst (λ (us : List TokenWithBytes). EndsAt us (length p)) (sym a.one) c.begins) in
    let are_b : AreTokensFrom context.Words line (length p) (b.first ++ b.second) =
    subst (λ (n : ℕ). AreTokensFrom context.Words line n (b.first ++ b.second)) stop_a (tokens_begin_behind_those_before a.first (b.first ++ b.second) line t.stop are) in
    let stop_b : stop_of_tokens (length p) b.first ≡ length (p ++ g) =
    tokens_stop_where_they_end line b.first (length p) (length (p ++ g)) (subst (λ (us : List TokenWithBytes). EndsAt us (length (p ++ g))) (sym b.one) c.gone_is) in
    let are_c : AreTokensFrom context.Words ((p ++ g) ++ s) (length (p ++ g)) b.second =
    subst (λ (l : List ℕ). AreTokensFrom context.Words l (length (p ++ g)) b.second) (sym (append_assoc p g s))
    (subst (λ (n : ℕ). AreTokensFrom context.Words line n b.second) stop_b (tokens_begin_behind_those_before b.first b.second line (length p) are_b)) in
    let moved : List Token = tokens_after_replacement (length (p ++ g)) (length p) b.second in
    let behind : AreTokensFrom context.Words new (length p) moved =
    tokens_behind_place_are_moved (p ++ g) p r plain_rest b.second (length (p ++ g)) 0 (length p) (omega arith) (omega arith) are_c in
    let keep : AreTokensFrom context.Words new t.stop (a.first ++ moved) =
    tokens_before_place_keep p (g ++ s) s plain seam seam_left a.first (b.first ++ b.second) moved t.stop stop_a are behind in
    let all : AreTokensFrom (context.First mode.Words) (head ++ (p' ++ s)) 0 (t ∷ (a.first ++ moved)) =
    h.again (p' ++ s) (a.first ++ moved) (subst (λ (l : List ℕ). AreTokensFrom context.Words l t.stop (a.first ++ moved)) (append_assoc head p' s) keep) in
    let read_as : line_mode new ≡ mode.Words = ap line_mode (append_assoc head p' s) ∙ begins.read_as (p' ++ s) in
    let tokens : HasTokens (line_mode new) new (t ∷ (a.first ++ moved)) =
    subst (λ (m : Mode). HasTokens m new (t ∷ (a.first ++ moved))) (sym read_as)
    (subst (λ (l : List ℕ). AreTokensFrom (context.First mode.Words) l 0 (t ∷ (a.first ++ moved))) (sym (append_assoc head p' s)) all) in
    let alike_a : AreTokensAlike (length p) c.left (tokens_with_bytes new a.first) =
    subst (λ (us : List TokenWithBytes). AreTokensAlike (length p) us (tokens_with_bytes new a.first)) a.one
    (tokens_before_place_are_alike (length p) p (g ++ s) s a.first (b.first ++ b.second) t.stop (omega (arith, stop_a)) are) in
    let alike_c : AreTokensAlike (length p) (c.right ++ rest) (tokens_with_bytes new moved) =
    subst (λ (us : List TokenWithBytes). AreTokensAlike (length p) us (tokens_with_bytes new moved)) b.other
    (subst (λ (l : List ℕ). AreTokensAlike (length p) (tokens_with_bytes l b.second) (tokens_with_bytes new moved)) (append_assoc p g s)
    (tokens_behind_place_are_alike (p ++ g) p s (length p) (omega (arith, length-append p g)) b.second (length (p ++ g)) 0 (omega arith) are_c)) in
    let sp = alike_tokens_split (length p) c.right rest (tokens_with_bytes new moved) alike_c in
    let y = c.again (tokens_with_bytes new a.first) sp.first sp.second alike_a sp.one in
    let word : IsTokenAlike (length p) (token_with_bytes line t) (token_with_bytes new t) = record {
      kind = refl;
      text = sym (slice_before_place_keeps p (g ++ s) s t.start t.stop h.some (omega (arith, h.inside, length-append head p')));
      stop = λ near. refl;
    } in
    let behind_split : tokens_with_bytes new (a.first ++ moved) ≡ tokens_with_bytes new a.first ++ (sp.first ++ sp.second) =
    map-append (token_with_bytes new) a.first moved ∙ ap (λ (us : List TokenWithBytes). tokens_with_bytes new a.first ++ us) sp.split in (
      y.0,
      record {
        tokens = t ∷ (a.first ++ moved);
        has = tokens;
        reads = (
          sp.second,
          record {
            word = token_with_bytes new t;
            behind = tokens_with_bytes new a.first ++ (sp.first ++ sp.second);
            split = ap (λ (us : List TokenWithBytes). token_with_bytes new t ∷ us) behind_split;
            is_kind = alike_token_has_same_alias_kind (length p) (token_with_bytes line t) (token_with_bytes new t) word ∙ is_kind;
            defs = y.1;
          },
          alike_end_is_end (length p) rest sp.second sp.other end,
        );
      },
      y.2,
    )

-- Of the tokens of such a line some can go: what is left reads as a line without the bytes that these own.
pub line_without_bytes_reads : (p' g r : List ℕ) (head : List ℕ) (k : Kind) (defs : List Def) (Good : List Def → Type 0) → BeginsWordAliases head → ArePlainBytes (head ++ p') → ArePlainBytes r
    → leading_run_size rule.Word (g ++ (r ++ 10 ∷ [])) ≡ 0 → leading_run_size rule.Word (r ++ 10 ∷ []) ≡ 0
    → ((ts rest : List TokenWithBytes) → Separated 58 (IsDef k) ts defs rest → CanLoseTokens (length (head ++ p')) (Separated 58 (IsDef k)) Good (length (head ++ p')) (length ((head ++ p') ++ g)) ts rest)
    → LineReadsAsNode ((head ++ p') ++ (g ++ (r ++ 10 ∷ []))) (node.Alias k defs)
    → (others : List Def) × LineReadsAsNode ((head ++ p') ++ (r ++ 10 ∷ [])) (node.Alias k others) × Good others
line_without_bytes_reads p' g r head k defs Good begins plain plain_rest seam seam_left lose is =
    by_tokens is.tokens is.reads.1.split
    (subst (λ (l : List ℕ). AreTokensFrom (context.First mode.Words) l 0 is.tokens) (append_assoc head p' (g ++ (r ++ 10 ∷ [])))
    (subst (λ (m : Mode). HasTokens m ((head ++ p') ++ (g ++ (r ++ 10 ∷ []))) is.tokens)
    (ap line_mode (append_assoc head p' (g ++ (r ++ 10 ∷ []))) ∙ begins.read_as (p' ++ (g ++ (r ++ 10 ∷ [])))) is.has))
  where
    by_tokens : (tokens : List Token) → tokens_with_bytes ((head ++ p') ++ (g ++ (r ++ 10 ∷ []))) tokens ≡ is.reads.1.word ∷ is.reads.1.behind
        → AreTokensFrom (context.First mode.Words) (head ++ (p' ++ (g ++ (r ++ 10 ∷ [])))) 0 tokens
        → (others : List Def) × LineReadsAsNode ((head ++ p') ++ (r ++ 10 ∷ [])) (node.Alias k others) × Good others
    by_tokens [] e has = absurd (cc)
    by_tokens (t ∷ ts) e has =
        let line : List ℕ = (head ++ p') ++ (g ++ (r ++ 10 ∷ [])) in
        let word : token_with_bytes line t ≡ is.reads.1.word = cc in
        let behind : tokens_with_bytes line ts ≡ is.reads.1.behind = cc in
        by_first_token p' g r head k defs Good begins plain plain_rest seam seam_left t ts is.reads.0 (ap alias_kind_of_token word ∙ is.reads.1.is_kind) is.reads.2
        (lose (tokens_with_bytes line ts) is.reads.0 (subst (λ (us : List TokenWithBytes). Separated 58 (IsDef k) us defs is.reads.0) (sym behind) is.reads.1.defs)) has
