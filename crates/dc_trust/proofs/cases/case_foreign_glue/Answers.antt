use Rattle.std.proofs.Common.{refl}
use Rattle.std.specs.Fmt.{digits}
use Rattle.dc_model.specs.Name.{name_at}
use Rattle.dc_model.specs.Message.{record_at, message_of, request_of, query}
use Rattle.dc_model.specs.Cache.{hsize, bucket, placed}
use Rattle.dc_model.specs.Draws.{shuffled}
use Rattle.dc_model.specs.Rules.{read_servers}
use Rattle.dc_model.specs.Line.{shown, shown_data, line_starting, line_query, line_sent, line_drop, line_tx, line_cached, line_cached_cname, line_cached_ns, line_cached_nxdomain, line_rr, line_rr_host, line_rr_mx, line_rr_soa, line_nodata, line_nxdomain, line_lame, line_servfail, line_stats, line_tcpopen, line_tcpclose}
use Rattle.dc_model.specs.Reply.{answer_written, reply_bytes, truncated_bytes, udp_bytes, tcp_bytes}
use Rattle.dc_model.specs.Transmission.{filled_from, round_of, waits_of, udp_plan, tcp_plan, is_patient, linked, opening_of, sent, tried, started, next_try, bad_news, asked_by_tcp, asks_for, is_relevant, is_truncated, is_served, accepted, answered, after_datagram, after_whole, is_whole, after_gathered, after_link_bytes, after_link_up, after_refusal, after_tick, after_link_event, after_kind, after_event}
use Rattle.dc_model.specs.Bodies.{item_of, plain_name_at, item_at, items_from, items_of, target_of}
use Rattle.dc_model.specs.Marks.{answers_of, authority_of, marks_of, negative_ttl, class_of}
use Rattle.dc_model.specs.Puts.{all_put, with_pair, pairs_of, group_of, counted, is_stored, rr_line, given_by, given_of, lines_given, puts_given}
use Rattle.dc_machine.specs.Query.{top, below, with_addresses}
use Rattle.dc_machine.specs.Turn.{alias_answers, reply_of, reply_row, begin_row, cached_choice, uses_cached, choice_by, choice_of, chosen_row, zone_row, is_other, other_by, other_row, known_at, first_known, known_by, known_row, cname_by, cname_row, missing_by, missing_row, loopback_row, built_in, built_in_by, rules_row, look_row, ask_row, next_by, next_row, down_row, servfail_row, nxdomain_row, alias_row, failed_row, answers_row, refers_row, nodata_puts, nodata_lines, told_row, class_row, kept_row, marked_row, message_row, heard_row, row, state_after, onward, rows, turn}
use Rattle.dc_machine.specs.Machine.{pick, with_query, closed_alone, closed_by, closed_with, replied_to, dropped_for, settled, turned_by, turned, begun, progressed, progressed_by, given_to, is_refused, displaced_query, with_room, accepted_udp, request_by, request_step, is_ready, is_idle, asked_by, asked, displaced_connection, with_place, opened, conn_up_by, gathered_by, conn_bytes_by, conn_down_by, earliest, holders, first_ready, due_step, due_by, tick_by, wake, link_step, step_by, step}
use Rattle.dc_machine.specs.Run.{taken_from, run, last_of, actions_of, puts_of, asked_of}
use Rattle.dc_trust.proofs.cases.case_foreign_glue.Goals as goal

pub returns : goal.returns
unfolding digits name_at record_at message_of request_of query hsize bucket placed shuffled read_servers shown shown_data line_starting line_query line_sent line_drop line_tx line_cached line_cached_cname line_cached_ns line_cached_nxdomain line_rr line_rr_host line_rr_mx line_rr_soa line_nodata line_nxdomain line_lame line_servfail line_stats line_tcpopen line_tcpclose answer_written reply_bytes truncated_bytes udp_bytes tcp_bytes filled_from round_of waits_of udp_plan tcp_plan is_patient linked opening_of sent tried started next_try bad_news asked_by_tcp asks_for is_relevant is_truncated is_served accepted answered after_datagram after_whole is_whole after_gathered after_link_bytes after_link_up after_refusal after_tick after_link_event after_kind after_event item_of plain_name_at item_at items_from items_of target_of answers_of authority_of marks_of negative_ttl class_of all_put with_pair pairs_of group_of counted is_stored rr_line given_by given_of lines_given puts_given top below with_addresses alias_answers reply_of reply_row begin_row cached_choice uses_cached choice_by choice_of chosen_row zone_row is_other other_by other_row known_at first_known known_by known_row cname_by cname_row missing_by missing_row loopback_row built_in built_in_by rules_row look_row ask_row next_by next_row down_row servfail_row nxdomain_row alias_row failed_row answers_row refers_row nodata_puts nodata_lines told_row class_row kept_row marked_row message_row heard_row row state_after onward rows turn pick with_query closed_alone closed_by closed_with replied_to dropped_for settled turned_by turned begun progressed progressed_by given_to is_refused displaced_query with_room accepted_udp request_by request_step is_ready is_idle asked_by asked displaced_connection with_place opened conn_up_by gathered_by conn_bytes_by conn_down_by earliest holders first_ready due_step due_by tick_by wake link_step step_by step taken_from run last_of actions_of puts_of asked_of
returns c = refl
