-- The policy of files that are gathered, and fronts of texts.
use Rattle.std.proofs.Common.{◌≡◌, ◌⊎◌, inl, inr, ◌∙◌, ◌<◌, ◌≤◌, ◌+◌, ◌++◌, ⊎_elim, ℕ, List, length, Option, Some, None, IfSome, Ok, Vec, Global, refl, sym, ap, subst, arith}
use Rattle.std.proofs.lemmas.Bool.{lt-ltb, le-ltb, cases_lt}
use Rattle.std.proofs.lemmas.List.{length-append}
use Rattle.std.specs.Prelude.{if◌then◌else◌}
use Rattle.std.specs.Io.KnownBytes.{Consumes}
use Rattle.sudoers_text.specs.Fault.{text_limit}
use Rattle.sudoers_tree.specs.declared.named_files.NamedFile.{NamedFile}
use Rattle.sudoers_files.specs.Device.{ReaderMeter}
use Rattle.sudoers_files.specs.Reading.{IsReadToEndOrBytePastLimit, IsTextOfReader, TooLarge, Whole}
use Rattle.sudoers_run.specs.Reading.{WasReadToEndOrLimit, reading_end_of_read_bytes}

-- ---- files

-- What follows of known files, if they are known.
pub property_of_known_files_is_weakened : (o : Option (List NamedFile)) (P Q : List NamedFile → Type 0) → ((known : List NamedFile) → P known → Q known) → IfSome o P → IfSome o Q
property_of_known_files_is_weakened None P Q follows is = tt
property_of_known_files_is_weakened (Some known) P Q follows is = follows known is

-- ---- fronts of texts

-- It says what the file says: it is all of it, or both are too large.
abbrev pub IsTextAlikeUpToLimit : List ℕ → List ℕ → Type 0
IsTextAlikeUpToLimit front known = (front ≡ known) ⊎ ((text_limit < length front) × (text_limit < length known))

extended_front_past_limit_is_past_limit : (front rest known : List ℕ) → known ≡ front ++ rest → text_limit < length front → text_limit < length known
extended_front_past_limit_is_past_limit front rest known e h = let l : length known ≡ length front + length rest = ap length e ∙ length-append front rest in omega (arith, h, l)

consumed_front_is_alike_up_to_limit : (old new : Option (List ℕ)) (front : List ℕ) → Consumes old new front → (length front ≤ text_limit → IfSome old (λ (bytes : List ℕ). front ≡ bytes)) → IfSome old (IsTextAlikeUpToLimit front)
consumed_front_is_alike_up_to_limit None new front taken all = tt
consumed_front_is_alike_up_to_limit (Some known) None front taken all = absurd taken
consumed_front_is_alike_up_to_limit (Some known) (Some rest) front taken all =
    ⊎_elim (λ h. inr (h, extended_front_past_limit_is_past_limit front rest known taken h)) (λ h. inl (all h)) (cases_lt text_limit (length front))

-- The text of a reader, of which a front was read.
abbrev pub text_of_reader_or_front : Option (List ℕ) → List ℕ → List ℕ
text_of_reader_or_front None front = front
text_of_reader_or_front (Some known) front = known

known_reader_text_is_its_bytes : (o : Option (List ℕ)) (front : List ℕ) → IfSome o (λ (bytes : List ℕ). text_of_reader_or_front o front ≡ bytes)
known_reader_text_is_its_bytes None front = tt
known_reader_text_is_its_bytes (Some known) front = refl

pub reader_text_or_front_is_reader_text : (old : ReaderMeter) (front : List ℕ) → IsTextOfReader old (text_of_reader_or_front old.remaining front)
reader_text_or_front_is_reader_text old front = known_reader_text_is_its_bytes old.remaining front

front_alike_known_is_alike_reader_text : (o : Option (List ℕ)) (front : List ℕ) → IfSome o (IsTextAlikeUpToLimit front) → IsTextAlikeUpToLimit front (text_of_reader_or_front o front)
front_alike_known_is_alike_reader_text None front is = inl refl
front_alike_known_is_alike_reader_text (Some known) front is = is

pub text_read_to_limit_is_alike_reader : (old new : ReaderMeter) (front : List ℕ) → IsReadToEndOrBytePastLimit text_limit old new front → IsTextAlikeUpToLimit front (text_of_reader_or_front old.remaining front)
text_read_to_limit_is_alike_reader old new front is = front_alike_known_is_alike_reader_text old.remaining front (consumed_front_is_alike_up_to_limit old.remaining new.remaining front is.taken is.all)

-- A front was read.
pub front_was_read_to_end_or_limit : (limit : ℕ) (front : Vec ℕ Global) → WasReadToEndOrLimit (reading_end_of_read_bytes limit (Ok front))
front_was_read_to_end_or_limit limit front =
    ⊎_elim
    (λ h. subst WasReadToEndOrLimit (sym (ap (λ b. if b then TooLarge else Whole) (lt-ltb limit (length front.items) h))) tt)
    (λ h. subst WasReadToEndOrLimit (sym (ap (λ b. if b then TooLarge else Whole) (le-ltb limit (length front.items) h))) tt)
    (cases_lt limit (length front.items))
