-- The rows, computed.
use Rattle.std.proofs.Common.{refl}
use Rattle.std.specs.Fmt.{digits}
use Rattle.voice_script.specs.Rows.{CreationRows, RangeRows, NumberRows, LineRows, NameRows, ControlRows, ChainRows, OneNumberRows, OneSpaceRows, ReplyRows}

pub creations : CreationRows
creations = record {
  no_words = refl;
  second_kind = refl;
  words_72 = refl;
  words_73 = refl;
  last_of_73_no_number = refl;
  last_of_400_no_number = refl;
  words_400 = refl;
  range_then_no_number = refl;
  no_kind = refl;
  kind_in_capitals = refl;
  number_for_a_kind = refl;
  kind_for_a_number = refl;
  longer_kind = refl;
  no_group = refl;
  name_alone = refl;
}

pub ranges : RangeRows
ranges = record {
  instance_255 = refl;
  instance_256 = refl;
  instance_below_0 = refl;
  group_255 = refl;
  group_256 = refl;
  group_below_0 = refl;
  least_word = refl;
  below_words = refl;
  greatest_word = refl;
  above_words = refl;
  channel_255 = refl;
  channel_256 = refl;
  channel_below_0 = refl;
  member_255 = refl;
  member_256 = refl;
  member_below_0 = refl;
  fed_channel_255 = refl;
  fed_channel_256 = refl;
  fed_channel_below_0 = refl;
  sample_1 = refl;
  samples_0 = refl;
  samples_below_0 = refl;
  samples_1024 = refl;
  samples_1025 = refl;
}

pub numbers : NumberRows
numbers = record {
  leading_zeros = refl;
  minus_0 = refl;
  hundred_zeros = refl;
  hundred_nines = refl;
  minus_alone = refl;
  plus = refl;
  two_minuses = refl;
  minus_behind = refl;
  letter_behind = refl;
  below_the_digits = refl;
  above_the_digits = refl;
  octet_0_inside = refl;
}

pub lines : LineRows
lines = record {
  empty = refl;
  blanks = refl;
  return_alone = refl;
  blanks_and_return = refl;
  runs_of_blanks = refl;
  tabs = refl;
  return_at_the_end = refl;
  two_returns = refl;
  return_inside = refl;
  form_feed = refl;
  vertical_tab = refl;
  octet_0_in_a_name = refl;
}

pub names : NameRows
names = record {
  create_in_capitals = refl;
  chain_in_capitals = refl;
  feed_in_capitals = refl;
  longer_name = refl;
  shorter_name = refl;
  unknown = refl;
  chain_without_member = refl;
  feed_without_samples = refl;
  feed_with_a_third_word = refl;
  third_word_before_range = refl;
}

pub controls : ControlRows
controls = record {
  set_no_words = refl;
  set_words = refl;
  set_72_words = refl;
  set_73_words = refl;
  last_of_73_no_number = refl;
  set_least_word = refl;
  set_below_words = refl;
  set_greatest_word = refl;
  set_above_words = refl;
  set_of_255 = refl;
  set_of_256 = refl;
  set_of_256_no_number = refl;
  reset = refl;
  reset_of_256 = refl;
  reset_with_a_word = refl;
  get = refl;
  get_of_256 = refl;
  get_with_a_word = refl;
  no_control = refl;
  unknown_control = refl;
  control_of_no_number = refl;
  control_in_capitals = refl;
}

pub chains : ChainRows
chains = record {
  one_member = refl;
  two_members = refl;
  member_twice = refl;
  members_8 = refl;
  members_9 = refl;
  last_of_9_no_number = refl;
  last_of_8_is_256 = refl;
  channel_256_without_member = refl;
}

pub one_numbers : OneNumberRows
one_numbers = record {
  delete_0 = refl;
  delete_255 = refl;
  delete_256 = refl;
  delete_below_0 = refl;
  delete_alone = refl;
  delete_with_two_words = refl;
  delete_of_no_number = refl;
  unchain_0 = refl;
  unchain_255 = refl;
  unchain_256 = refl;
  unchain_below_0 = refl;
  unchain_alone = refl;
  unchain_with_two_words = refl;
  unchain_of_no_number = refl;
  release_0 = refl;
  release_255 = refl;
  release_256 = refl;
  release_below_0 = refl;
  release_alone = refl;
  release_with_two_words = refl;
  release_of_no_number = refl;
  stat_0 = refl;
  stat_255 = refl;
  stat_256 = refl;
  stat_below_0 = refl;
  stat_alone = refl;
  stat_with_two_words = refl;
  stat_of_no_number = refl;
}

pub one_spaces : OneSpaceRows
one_spaces = record {
  compact_daram = refl;
  compact_saram = refl;
  compact_external = refl;
  compact_alone = refl;
  compact_with_two_words = refl;
  compact_in_capitals = refl;
  compact_of_a_number = refl;
  step_daram = refl;
  step_saram = refl;
  step_external = refl;
  step_alone = refl;
  step_with_two_words = refl;
  step_in_capitals = refl;
  step_of_a_number = refl;
  map_daram = refl;
  map_saram = refl;
  map_external = refl;
  map_alone = refl;
  map_with_two_words = refl;
  map_in_capitals = refl;
  map_of_a_number = refl;
}

pub replies : ReplyRows
unfolding digits
replies = record {
  no_words = refl;
  words = refl;
  least_word = refl;
  greatest_word = refl;
  words_72 = refl;
  yes = refl;
  no = refl;
  no_active = refl;
  active_0 = refl;
  active_63 = refl;
  empty_map = refl;
  scratch = refl;
  two_blocks = refl;
  longest_map = refl;
  done = refl;
  least_count = refl;
  ten = refl;
  greatest_count = refl;
  long = refl;
  misshapen = refl;
  range = refl;
  taken = refl;
  missing = refl;
  params = refl;
  room = λ space. refl;
  busy = refl;
  command = refl;
  short = refl;
}
