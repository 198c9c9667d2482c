-- What a contract sees of replies.
use Rattle.std.specs.Prelude.{Bool}
use Rattle.voice_script.specs.Replies as replies
use Rattle.voice_script.specs.Served.{Replied, is_refused}
use Rattle.voice_script.specs.declared.replies.Reply.{Reply}
use Rattle.voice_script.specs.declared.replies.Reply.TheVariants.{Done, Words, Count, Flag, Stat, Map, No}

abbrev pub reply_of : Reply → replies.Reply
reply_of Done = replies.Done
reply_of (Words words) = replies.Words words.now.items
reply_of (Count count) = replies.Count count
reply_of (Flag flag) = replies.Flag flag
reply_of (Stat stat) = replies.Stat stat.active stat.activations
reply_of (Map blocks) = replies.Map blocks.now.items
reply_of (No refusal) = replies.No refusal

abbrev pub is_refusal : replies.Reply → Bool
is_refusal reply = is_refused (Replied reply)
