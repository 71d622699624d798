-- What is printed of one user whom two policies grant something otherwise.
use Rattle.std.specs.Prelude.{◌≡◌, ℕ, ◌==◌, ◌&&◌, Bool, if◌then◌else◌, List, [], ◌∷◌, ◌++◌, codes, map, Option, Some, None}
use Rattle.std.specs.Fmt.{decimal}
use Rattle.std.specs.Str.{bytes_eq}
use Rattle.sudoers_tree.specs.Load.{LoadedPolicy}
use Rattle.sudoers_match_member.specs.declared.people_and_commands.Group.{Group}
use Rattle.sudoers_match_member.specs.declared.people_and_commands.Who.{Who}
use Rattle.sudoers_match_member.specs.declared.request.Request.{Request}
use Rattle.sudoers_match.specs.Alike.{AreAnswersSameButNumbers}
use Rattle.sudoers_match.specs.Answer.{Answer, IsAnswerToRequest, words_joined_with_spaces}
use Rattle.sudoers_match.specs.Default.{IsRunasDefault}
use Rattle.sudoers_cvt_spell.specs.Commands.{printed_runas_options_tags_and_command}
use Rattle.sudoers_compare.specs.FlatSpecs.{PlacedRow, placed_rows_of_policy}
use Rattle.sudoers_compare.specs.declared.same_row.CountedChanges.TheVariants as counted
use Rattle.sudoers_review.specs.ChangedText.{marked_rows, rows_with_marks, row_of_placed, AreChangeMarks}
use Rattle.sudoers_review.specs.OverruledText.{place_text_of_row}
use Rattle.sudoers_review.specs.RowText.{command_of_grant}
use Rattle.sudoers_review_users.specs.UserRows.{deciding_rows_of_user}

-- ---- lines of items

-- The text has a line for each item, in their order.
pub data AreLinesOfItems {X : Type 0} (IsLine : X → List ℕ → Type 0) : List X → List ℕ → Type 0 where
  no_line : AreLinesOfItems IsLine [] []
  next_line : (x : X) (xs : List X) (line lines : List ℕ) → IsLine x line → AreLinesOfItems IsLine xs lines → AreLinesOfItems IsLine (x ∷ xs) (line ++ lines)

-- ---- a command that both policies answer otherwise

-- the user as whom it runs, unless both policies take him where no user is named
abbrev pub printed_target : List ℕ → List ℕ → List ℕ → List ℕ
printed_target old_default new_default target = if bytes_eq target old_default && bytes_eq target new_default then [] else codes "-u " ++ target ++ codes " "

abbrev pub printed_target_group : Option Group → List ℕ
printed_target_group None = []
printed_target_group (Some group) = codes "-g " ++ group.name ++ codes " "

abbrev pub printed_arguments : List (List ℕ) → List ℕ
printed_arguments [] = []
printed_arguments (word ∷ words) = codes " " ++ words_joined_with_spaces (word ∷ words)

-- the moment, unless it is this one
abbrev pub printed_moment : ℕ → ℕ → List ℕ
printed_moment now moment = if moment == now then [] else codes "  at " ++ decimal moment ++ codes "Z"

-- what the user writes behind `sudo`, and when
abbrev pub printed_request : List ℕ → List ℕ → ℕ → Request → List ℕ
printed_request old_default new_default now request =
    printed_target old_default new_default request.target.name ++ printed_target_group request.target_group ++ request.command
    ++ printed_arguments request.args ++ printed_moment now request.moment

-- Both policies answer the request, and not the same.
pub record HasOtherAnswer (old new : LoadedPolicy) (request : Request) : Type 0 where
  pub answer : Option Answer
  pub is_answer : IsAnswerToRequest old.walk.lines request answer
  pub other : Option Answer
  pub is_other : IsAnswerToRequest new.walk.lines request other
  pub differ : AreAnswersSameButNumbers answer other → ⊥

-- It names a request of the user on the host that both policies answer otherwise, or says that none was found.
pub data IsExampleText (old new : LoadedPolicy) (now : ℕ) (who : Who) (old_default new_default : List ℕ) : List ℕ → Type 0 where
  example_is_named : (request : Request) → request.who ≡ who → HasOtherAnswer old new request
      → IsExampleText old new now who old_default new_default (codes "e.g. " ++ printed_request old_default new_default now request)
  no_example_is_found : IsExampleText old new now who old_default new_default (codes "no example found")

-- ---- rows

-- the line on a row behind this sign: the user, what it grants or denies him, an example, and where its command stands
abbrev pub user_row_line : List ℕ → List ℕ → LoadedPolicy → PlacedRow → List ℕ → List ℕ
user_row_line sign name policy placed example =
    sign ++ name ++ codes " " ++ printed_runas_options_tags_and_command (command_of_grant placed.row.grant) ++ codes "  " ++ example ++ codes "  "
    ++ place_text_of_row policy placed ++ codes "\n"

-- It is the line on the row, with such an example.
abbrev pub IsUserRowLine : (List ℕ → Type 0) → List ℕ → List ℕ → LoadedPolicy → PlacedRow → List ℕ → Type 0
IsUserRowLine IsExample sign name policy placed line = (example : List ℕ) × IsExample example × (line ≡ user_row_line sign name policy placed example)

-- ---- the user as whom a command runs where no user is named

abbrev pub default_line : List ℕ → List ℕ → List ℕ → List ℕ
default_line sign name default = sign ++ name ++ codes " Defaults runas_default=" ++ default ++ codes "\n"

abbrev pub default_lines : List ℕ → List ℕ → List ℕ → List ℕ
default_lines name old_default new_default =
    if bytes_eq old_default new_default then [] else default_line (codes "- ") name old_default ++ default_line (codes "+ ") name new_default

-- ---- both

-- What is printed of the user `name`, who is asked about as `who`: his runas_default if it differs, and his rows that went and that came.
-- Examples are of this moment, unless they say another.
pub record IsUserChangesText (old new : LoadedPolicy) (now : ℕ) (name : List ℕ) (who : Who) (text : List ℕ) : Type 0 where
  pub gone : List Bool
  pub came : List Bool
  pub are_marks : AreChangeMarks counted.All (map row_of_placed (deciding_rows_of_user who (placed_rows_of_policy old.walk.lines)))
      (map row_of_placed (deciding_rows_of_user who (placed_rows_of_policy new.walk.lines))) gone came
  pub old_default : List ℕ
  pub is_old_default : IsRunasDefault old.walk.lines who old_default
  pub new_default : List ℕ
  pub is_new_default : IsRunasDefault new.walk.lines who new_default
  pub went : List ℕ
  pub are_old_lines : AreLinesOfItems (IsUserRowLine (IsExampleText old new now who old_default new_default) (codes "- ") name old)
      (marked_rows (rows_with_marks gone (deciding_rows_of_user who (placed_rows_of_policy old.walk.lines)))) went
  pub brought : List ℕ
  pub are_new_lines : AreLinesOfItems (IsUserRowLine (IsExampleText old new now who old_default new_default) (codes "+ ") name new)
      (marked_rows (rows_with_marks came (deciding_rows_of_user who (placed_rows_of_policy new.walk.lines)))) brought
  pub text_is : text ≡ default_lines name old_default new_default ++ went ++ brought
