-- Values whose texts are all UTF-8.
use Rattle.std.specs.Prelude.{Bool, true, ◌&&◌}
use Rattle.std.specs.Str.{is_utf8}
use Rattle.serde_json.specs.Data.{Data, null, boolean, number, string, array, object, Items, no_items, item, Members, no_members, member}

-- Every text of the value is UTF-8. Keys do not count: they are words of JSON's own.
abbrev mutual
  pub are_texts_of_value_unicode : Data → Bool
  are_texts_of_value_unicode null = true
  are_texts_of_value_unicode (boolean b) = true
  are_texts_of_value_unicode (number n) = true
  are_texts_of_value_unicode (string text) = is_utf8 text
  are_texts_of_value_unicode (array ds) = are_texts_of_items_unicode ds
  are_texts_of_value_unicode (object ms) = are_texts_of_object_members_unicode ms

  pub are_texts_of_items_unicode : Items → Bool
  are_texts_of_items_unicode no_items = true
  are_texts_of_items_unicode (item d ds) = are_texts_of_value_unicode d && are_texts_of_items_unicode ds

  pub are_texts_of_object_members_unicode : Members → Bool
  are_texts_of_object_members_unicode no_members = true
  are_texts_of_object_members_unicode (member key d ms) = are_texts_of_value_unicode d && are_texts_of_object_members_unicode ms
