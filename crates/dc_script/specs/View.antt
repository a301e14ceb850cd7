-- What the types of this crate stand for.
use Rattle.std.specs.Prelude.{ℕ, List, []}
use Rattle.dc_model.specs.Event as model
use Rattle.dc_script.specs.declared.action.Action.{Action}
use Rattle.dc_script.specs.declared.action.Action.TheVariants.{Reply, ConnReply, ConnClose, Udp, Tcp, LinkWrite, LinkClose, Line}
use Rattle.dc_script.specs.declared.text.Rest.{Rest}
use Rattle.dc_script.specs.declared.text.Rest.TheVariants.{Bytes, Text, Nothing}
use Rattle.dc_script.specs.declared.events.EventLine.{EventLine}
use Rattle.dc_engine.specs.View.{event_of}
use Rattle.dc_script.specs.Text.{bytes_text}
use Rattle.dc_script.specs.Script.{bytes_spelled}

-- The action that is written.
abbrev pub action_of : Action → model.Action
action_of (Reply addr port bytes) = model.reply addr port bytes.now
action_of (ConnReply conn bytes) = model.conn_reply conn bytes.now
action_of (ConnClose conn) = model.conn_close conn
action_of (Udp link local_port server query) = model.udp link local_port server query.now
action_of (Tcp link local_port server) = model.tcp link local_port server
action_of (LinkWrite link bytes) = model.link_write link bytes.now
action_of (LinkClose link) = model.link_close link
action_of (Line text) = model.line text.now

-- The text of what stands at the end of an action's line.
abbrev pub rest_text : Rest → List ℕ
rest_text (Bytes bytes) = bytes_text bytes.now
rest_text (Text text) = text.now
rest_text Nothing = []

-- The event that a line says.
abbrev pub line_says : EventLine → model.Event
line_says l = event_of l.event (bytes_spelled l.digits.now)
