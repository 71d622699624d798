-- A plain cut of a line of aliases, by the parts of the line.
use Rattle.std.proofs.Common.{◌≡◌, inl, inr, ◌⊎◌, ℕ, zero, suc, ◌+◌, ◌-◌, ◌≤◌, Bool, true, false, ◌&&◌, ◌||◌, List, [], ◌∷◌, ◌++◌, length, take, drop, refl, sym, ap, subst, ◌∙◌, arith, append_assoc, codes}
use Rattle.std.specs.Prelude.{◌==◌, nat_eq}
use Rattle.std.specs.List.{starts_with, list_all}
use Rattle.std.proofs.lemmas.List.{length-append, length-drop, length-take-le, take-append-le, drop-append-le, take-append-drop, drop-drop}
use Rattle.std.proofs.lemmas.Bool.{eqb-true}
use Rattle.sudoers_text.specs.declared.part.ByteRunKind.TheVariants as rule
use Rattle.sudoers_text.specs.Part.{leading_run_size}
use Rattle.sudoers_text.specs.Whole.{IsLogicalLine}
use Rattle.sudoers_grammar.specs.declared.node.Kind.{Kind}
use Rattle.sudoers_grammar.specs.Node.{Def}
use Rattle.sudoers_grammar.specs.Node as node
use Rattle.sudoers_grammar.specs.Piece.{TokenWithBytes}
use Rattle.sudoers_grammar.specs.Grammar.{Separated, IsDef}
use Rattle.sudoers_grammar.specs.Line.{LineReadsAsNode}
use Rattle.sudoers_edit.specs.internal.Plain.{is_plain_byte, ArePlainBytes, begins_with_word_alias_head, begins_no_word, IsPlainCut, IsPlainLine}
use Rattle.sudoers_edit.proofs.TokensBefore.{plain_bytes_drop_to_plain_bytes}
use Rattle.sudoers_edit.proofs.TokenCuts.{CanLoseTokens}
use Rattle.sudoers_edit.proofs.AliasHeads.{BeginsWordAliases, user_head_begins_aliases, runas_head_begins_aliases, host_head_begins_aliases}
use Rattle.sudoers_edit.proofs.PlainLines.{plain_bytes_and_lf_are_logical_line}
use Rattle.sudoers_edit.proofs.CutLines.{line_without_bytes_reads}

-- the parts of a line, where bytes go from it
pub record IsLineInParts (from to : ℕ) (line : List ℕ) : Type 0 where
  pub head : List ℕ
  pub front : List ℕ
  pub gone : List ℕ
  pub rest : List ℕ
  pub begins : BeginsWordAliases head
  pub line_is : line ≡ (head ++ front) ++ (gone ++ (rest ++ 10 ∷ []))
  pub from_is : length (head ++ front) ≡ from
  pub to_is : length ((head ++ front) ++ gone) ≡ to
  pub text_is : take from line ++ drop to line ≡ (head ++ front) ++ (rest ++ 10 ∷ [])
  pub plain : ArePlainBytes (head ++ front)
  pub plain_rest : ArePlainBytes rest
  pub seam : leading_run_size rule.Word (gone ++ (rest ++ 10 ∷ [])) ≡ 0
  pub seam_left : leading_run_size rule.Word (rest ++ 10 ∷ []) ≡ 0

pub both_hold : (a b : Bool) → (a && b) ≡ true → (a ≡ true) × (b ≡ true)
both_hold true b h = (refl, h)
both_hold false b h = absurd (cc)

one_holds : (a b : Bool) → (a || b) ≡ true → (a ≡ true) ⊎ (b ≡ true)
one_holds true b h = inl refl
one_holds false b h = inr h

pub all_plain_are_plain : (bytes : List ℕ) → list_all is_plain_byte bytes ≡ true → ArePlainBytes bytes
all_plain_are_plain [] h = tt
all_plain_are_plain (b ∷ bytes) h =
    let both = both_hold (is_plain_byte b) (list_all is_plain_byte bytes) h in
    (both.0, all_plain_are_plain bytes both.1)

plain_bytes_begin_with_plain_bytes : (n : ℕ) (q : List ℕ) → ArePlainBytes q → ArePlainBytes (take n q)
plain_bytes_begin_with_plain_bytes zero q plain = tt
plain_bytes_begin_with_plain_bytes (suc n) [] plain = tt
plain_bytes_begin_with_plain_bytes (suc n) (b ∷ q) plain = (plain.0, plain_bytes_begin_with_plain_bytes n q plain.1)

text_begins_with_head : (text head : List ℕ) → starts_with nat_eq text head ≡ true → (rest : List ℕ) × (text ≡ head ++ rest)
text_begins_with_head text [] h = (text, refl)
text_begins_with_head [] (b ∷ head) h = absurd (cc)
text_begins_with_head (a ∷ text) (b ∷ head) h =
    let both = both_hold (nat_eq b a) (starts_with nat_eq text head) h in
    let later = text_begins_with_head text head both.1 in
    (later.0, ap (λ (n : ℕ). n ∷ text) (sym (eqb-true b a both.0)) ∙ ap (λ (t : List ℕ). b ∷ t) later.1)

-- the head, and what follows it
record HasAliasHead (text : List ℕ) : Type 0 where
  pub head : List ℕ
  pub front : List ℕ
  pub begins : BeginsWordAliases head
  pub split : text ≡ head ++ front

text_with_head_has_alias_head : (text : List ℕ) → begins_with_word_alias_head text ≡ true → HasAliasHead text
text_with_head_has_alias_head text h =
    elim (one_holds (starts_with nat_eq text (codes "User_Alias ") || starts_with nat_eq text (codes "Runas_Alias ")) (starts_with nat_eq text (codes "Host_Alias ")) h) [
      | inl two ↦ elim (one_holds (starts_with nat_eq text (codes "User_Alias ")) (starts_with nat_eq text (codes "Runas_Alias ")) two) [
        | inl user ↦ made (codes "User_Alias ") user_head_begins_aliases user
        | inr runas ↦ made (codes "Runas_Alias ") runas_head_begins_aliases runas
      ]
      | inr host ↦ made (codes "Host_Alias ") host_head_begins_aliases host
    ]
  where
    made : (head : List ℕ) → BeginsWordAliases head → starts_with nat_eq text head ≡ true → HasAliasHead text
    made head begins is = let x = text_begins_with_head text head is in record { head = head; front = x.0; begins = begins; split = x.1 }

no_word_begins_such_byte : (b : ℕ) (xs : List ℕ) → (b == 32 || b == 9 || b == 44 || b == 58 || b == 10) ≡ true → leading_run_size rule.Word (b ∷ xs) ≡ 0
unfolding leading_run_size
no_word_begins_such_byte b xs h =
    elim (one_holds (b == 32 || b == 9 || b == 44 || b == 58) (b == 10) h) [
      | inl four ↦ elim (one_holds (b == 32 || b == 9 || b == 44) (b == 58) four) [
        | inl three ↦ elim (one_holds (b == 32 || b == 9) (b == 44) three) [
          | inl two ↦ elim (one_holds (b == 32) (b == 9) two) [
            | inl e ↦ none 32 (eqb-true b 32 e) refl
            | inr e ↦ none 9 (eqb-true b 9 e) refl
          ]
          | inr e ↦ none 44 (eqb-true b 44 e) refl
        ]
        | inr e ↦ none 58 (eqb-true b 58 e) refl
      ]
      | inr e ↦ none 10 (eqb-true b 10 e) refl
    ]
  where
    none : (c : ℕ) → b ≡ c → leading_run_size rule.Word (c ∷ xs) ≡ 0 → leading_run_size rule.Word (b ∷ xs) ≡ 0
    none c e is = ap (λ (n : ℕ). leading_run_size rule.Word (n ∷ xs)) e ∙ is

no_word_begins : (bytes : List ℕ) → begins_no_word bytes ≡ true → leading_run_size rule.Word bytes ≡ 0
no_word_begins [] h = absurd (cc)
no_word_begins (b ∷ xs) h = no_word_begins_such_byte b xs h

pub plain_cut_has_parts : (from to : ℕ) (line : List ℕ) → IsPlainCut from to line → IsLineInParts from to line
plain_cut_has_parts from to line is =
    let q : List ℕ = is.bytes.plain in
    let size : length line ≡ length q + 1 = omega (arith, ap length is.bytes.lf, length-append q (10 ∷ [])) in
    let to_inside : to ≤ length q = omega (arith, size, is.inside) in
    let from_inside : from ≤ length q = omega (arith, to_inside, is.order) in
    let p : List ℕ = take from q in
    let g : List ℕ = take (to - from) (drop from q) in
    let r : List ℕ = drop to q in
    let p_size : length p ≡ from = length-take-le from q from_inside in
    let g_size : length g ≡ to - from = length-take-le (to - from) (drop from q) (omega (arith, length-drop from q, to_inside)) in
    let behind : drop (to - from) (drop from q) ≡ r = drop-drop (to - from) from q ∙ ap (λ (n : ℕ). drop n q) (omega (arith, is.order)) in
    let from_line : take from line ≡ p = ap (take from) is.bytes.lf ∙ take-append-le from q (10 ∷ []) from_inside in
    let rest_from : drop from line ≡ drop from q ++ 10 ∷ [] = ap (drop from) is.bytes.lf ∙ drop-append-le from q (10 ∷ []) from_inside in
    let rest_to : drop to line ≡ r ++ 10 ∷ [] = ap (drop to) is.bytes.lf ∙ drop-append-le to q (10 ∷ []) to_inside in
    let middle : drop from line ≡ g ++ (r ++ 10 ∷ []) =
    rest_from ∙ ap (λ (t : List ℕ). t ++ 10 ∷ []) (sym (take-append-drop (to - from) (drop from q)) ∙ ap (λ (t : List ℕ). g ++ t) behind) ∙ append_assoc g r (10 ∷ []) in
    let h = text_with_head_has_alias_head p (subst (λ (t : List ℕ). begins_with_word_alias_head t ≡ true) from_line is.begins) in
    let plain = all_plain_are_plain q is.bytes.are_plain in
    record {
      head = h.head;
      front = h.front;
      gone = g;
      rest = r;
      begins = h.begins;
      line_is =
          sym (take-append-drop from line) ∙ ap (λ (t : List ℕ). t ++ drop from line) (from_line ∙ h.split) ∙ ap (λ (t : List ℕ). (h.head ++ h.front) ++ t) middle;
      from_is = ap length (sym h.split) ∙ p_size;
      to_is = omega (arith, length-append (h.head ++ h.front) g, ap length h.split, p_size, g_size, is.order);
      text_is = ap (λ (t : List ℕ). t ++ drop to line) (from_line ∙ h.split) ∙ ap (λ (t : List ℕ). (h.head ++ h.front) ++ t) rest_to;
      plain = subst ArePlainBytes h.split (plain_bytes_begin_with_plain_bytes from q plain);
      plain_rest = plain_bytes_drop_to_plain_bytes to q plain;
      seam = subst (λ (t : List ℕ). leading_run_size rule.Word t ≡ 0) middle (no_word_begins (drop from line) is.seam);
      seam_left = subst (λ (t : List ℕ). leading_run_size rule.Word t ≡ 0) rest_to (no_word_begins (drop to line) is.seam_left);
    }

pub join_of_plain_bytes_is_plain : (p r : List ℕ) → ArePlainBytes p → ArePlainBytes r → ArePlainBytes (p ++ r)
join_of_plain_bytes_is_plain [] r plain more = more
join_of_plain_bytes_is_plain (b ∷ p) r plain more = (plain.0, join_of_plain_bytes_is_plain p r plain.1 more)

-- A line with a plain cut, of whose tokens those can go, reads so without their bytes, and is one logical line then.
pub line_with_plain_cut_reads : (from to : ℕ) (line : List ℕ) (k : Kind) (defs : List Def) (Good : List Def → Type 0) → IsPlainCut from to line
    → ((ts rest : List TokenWithBytes) → Separated 58 (IsDef k) ts defs rest → CanLoseTokens from (Separated 58 (IsDef k)) Good from to ts rest)
    → LineReadsAsNode line (node.Alias k defs)
    → (others : List Def) × LineReadsAsNode (take from line ++ drop to line) (node.Alias k others) × IsLogicalLine (take from line ++ drop to line) × Good others
line_with_plain_cut_reads from to line k defs Good is lose reads =
    let x = plain_cut_has_parts from to line is in
    let p : List ℕ = x.head ++ x.front in
    let lose_here : (ts rest : List TokenWithBytes) → Separated 58 (IsDef k) ts defs rest → CanLoseTokens (length p) (Separated 58 (IsDef k)) Good (length p) (length (p ++ x.gone)) ts rest =
    subst (λ (n : ℕ). (ts rest : List TokenWithBytes) → Separated 58 (IsDef k) ts defs rest → CanLoseTokens (length p) (Separated 58 (IsDef k)) Good (length p) n ts rest) (sym x.to_is)
    (subst (λ (n : ℕ). (ts rest : List TokenWithBytes) → Separated 58 (IsDef k) ts defs rest → CanLoseTokens n (Separated 58 (IsDef k)) Good n to ts rest) (sym x.from_is) lose) in
    let y = line_without_bytes_reads x.front x.gone x.rest x.head k defs Good x.begins x.plain x.plain_rest x.seam x.seam_left lose_here
    (subst (λ (t : List ℕ). LineReadsAsNode t (node.Alias k defs)) x.line_is reads) in
    let whole : IsLogicalLine (p ++ (x.rest ++ 10 ∷ [])) =
    subst IsLogicalLine (append_assoc p x.rest (10 ∷ [])) (plain_bytes_and_lf_are_logical_line (p ++ x.rest) (join_of_plain_bytes_is_plain p x.rest x.plain x.plain_rest)) in
    (y.0, subst (λ (t : List ℕ). LineReadsAsNode t (node.Alias k y.0)) (sym x.text_is) y.1, subst IsLogicalLine (sym x.text_is) whole, y.2)

-- ---- what is left of a plain line

all_are_plain : (bytes : List ℕ) → ArePlainBytes bytes → list_all is_plain_byte bytes ≡ true
all_are_plain [] plain = refl
all_are_plain (b ∷ bytes) plain = both_are_plain (is_plain_byte b) (list_all is_plain_byte bytes) plain.0 (all_are_plain bytes plain.1)
  where
    both_are_plain : (a b : Bool) → a ≡ true → b ≡ true → (a && b) ≡ true
    both_are_plain a b e f = rw (e, f) refl

-- A plain cut leaves a plain line.
pub plain_cut_leaves_plain_line : (from to : ℕ) (line : List ℕ) → IsPlainCut from to line → IsPlainLine (take from line ++ drop to line)
plain_cut_leaves_plain_line from to line is =
    let x = plain_cut_has_parts from to line is in
    let p : List ℕ = x.head ++ x.front in
    record {
      plain = p ++ x.rest;
      lf = x.text_is ∙ sym (append_assoc p x.rest (10 ∷ []));
      are_plain = all_are_plain (p ++ x.rest) (join_of_plain_bytes_is_plain p x.rest x.plain x.plain_rest);
    }
