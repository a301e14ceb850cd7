use Rattle.std.proofs.Common.{append_assoc}
use Rattle.dc_script.specs.Text.{action_text}
use Rattle.dc_script.proofs.text.push_words.Goals as goal

pub returns-in-ConnClose : goal.returns-in-ConnClose
unfolding action_text
returns-in-ConnClose c = simp (c.in-ConnClose.is, c.push_word-in-ConnClose.ensures.items, c.requires, append_assoc)

pub returns-in-Reply : goal.returns-in-Reply
unfolding action_text
returns-in-Reply c = simp (c.in-Reply.is, c.push_all-in-Reply.ensures.items, c.push_word.ensures.items, c.push_address.ensures.items, c.push_all.ensures.items, c.into.ensures, c.requires, append_assoc)

pub returns-in-ConnReply : goal.returns-in-ConnReply
unfolding action_text
returns-in-ConnReply c = simp (c.in-ConnReply.is, c.push_all-in-ConnReply.ensures.items, c.push_word-in-ConnReply.ensures.items, c.requires, append_assoc)

pub returns-in-Udp : goal.returns-in-Udp
unfolding action_text
returns-in-Udp c = simp (c.in-Udp.is, c.push_all-in-Udp-2.ensures.items, c.push_address-in-Udp.ensures.items, c.push_all-in-Udp.ensures.items, c.push_word-in-Udp-2.ensures.items, c.push_word-in-Udp.ensures.items, c.into-in-Udp.ensures, c.requires, append_assoc)

pub returns-in-Tcp : goal.returns-in-Tcp
unfolding action_text
returns-in-Tcp c = simp (c.in-Tcp.is, c.push_address-in-Tcp.ensures.items, c.push_all-in-Tcp.ensures.items, c.push_word-in-Tcp-2.ensures.items, c.push_word-in-Tcp.ensures.items, c.into-in-Tcp.ensures, c.requires, append_assoc)

pub returns-in-LinkWrite : goal.returns-in-LinkWrite
unfolding action_text
returns-in-LinkWrite c = simp (c.in-LinkWrite.is, c.push_all-in-LinkWrite.ensures.items, c.push_word-in-LinkWrite.ensures.items, c.requires, append_assoc)

pub returns-in-LinkClose : goal.returns-in-LinkClose
unfolding action_text
returns-in-LinkClose c = simp (c.in-LinkClose.is, c.push_word-in-LinkClose.ensures.items, c.requires, append_assoc)

pub returns-in-Line : goal.returns-in-Line
unfolding action_text
returns-in-Line c = simp (c.in-Line.is, c.push_all-in-Line.ensures.items, c.requires, append_assoc)
