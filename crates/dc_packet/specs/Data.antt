-- The data of records, as the model has it.
use Rattle.dc_model.specs.Message as model
use Rattle.dc_packet.specs.declared.data.Data.{Data}
use Rattle.dc_packet.specs.declared.data.Data.TheVariants.{Bytes, Host, Mx, Soa}
use Rattle.dc_packet.specs.declared.data.Form.{Form}
use Rattle.dc_packet.specs.declared.data.Form.TheVariants as form

-- The data that was read.
abbrev pub body_of : Data → model.Body
body_of (Bytes bs) = model.bytes bs.now
body_of (Host n) = model.host n
body_of (Mx preference n) = model.mx preference n
body_of (Soa primary mailbox numbers) = model.soa primary mailbox numbers.now

-- The way in which data is read.
abbrev pub named_form : Form → model.Form
named_form form.Bytes = model.form_bytes
named_form form.Host = model.form_host
named_form form.Mx = model.form_mx
named_form form.Soa = model.form_soa
