-- Calls that were kept.
use Rattle.std.specs.Prelude.{Bool, true, false, List, map}
use Rattle.std.specs.declared.option.Option.{Option}
use Rattle.std.specs.declared.option.Option.TheVariants.{None, Some}
use Rattle.dc_system.specs.Call.{Call}
use Rattle.dc_system.specs.Call as call
use Rattle.dc_sock_tests.specs.declared.kept.Kept.{Kept}
use Rattle.dc_sock_tests.specs.declared.kept.Kept.TheVariants.{Bind, Connect, Send, SendTo, Receive, Listen, Accept, Begin, Stands, Read, Write, Close, Wait, Ready, Now, Print}

-- The call that was kept so.
abbrev pub call_of : Kept → Call
call_of (Bind s addr port answer) = call.bind s addr port answer
call_of (Connect s addr port ok) = call.connect s addr port ok
call_of (Send s bytes ok) = call.send s bytes.items ok
call_of (SendTo s addr port bytes ok) = call.send_to s addr port bytes.items ok
call_of (Receive s answer bytes) = call.receive s answer bytes.items
call_of (Listen s addr port ok) = call.listen s addr port ok
call_of (Accept l s answer) = call.accept l s answer
call_of (Begin s addr port server to answer) = call.begin s addr port server to answer
call_of (Stands s answer) = call.stands s answer
call_of (Read s answer bytes) = call.read s answer bytes.items
call_of (Write s bytes answer) = call.write s bytes.items answer
call_of (Close s) = call.close s
call_of (Wait pause ok) = call.wait pause ok
call_of (Ready answer) = call.ready answer
call_of (Now answer) = call.now answer
call_of (Print bytes ok) = call.print bytes.items ok

-- The calls that are kept, unless memory ran out for one.
abbrev pub told_by : (lost : Bool) → List Kept → Option (List Call)
told_by true kept = None
told_by false kept = Some (map call_of kept)
