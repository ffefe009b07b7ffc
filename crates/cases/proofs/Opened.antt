-- All that a call of a room works with, opened: where `opened` unfolds, every definition does that a call comes to, crate by crate, and so a call
-- whose arguments are written out computes to its answer.
-- Assumes nothing.
use Rattle.shape.specs.Bytes.{is_text, is_hex, is_capital, is_variant, is_letter, is_digit, is_small, is_digit_or_capital}
use Rattle.shape.specs.Dates.{time_of, is_leap, time_number, days_in, is_date, day_before, is_time}
use Rattle.shape.specs.Fields.{kopecks, amount_of, is_identifier, names_pacs008, is_iban, system_of, is_amount}
use Rattle.shape.specs.Fields.{currency_of, account_of as shape_account_of, three_bytes, message_code_of, code_of}
use Rattle.shape.specs.Numbers.{decimal, hex_value}
use Rattle.shape.specs.Patterns.{time_pattern, code_pattern, message_pattern, sep_pattern, account_pattern}
use Rattle.shape.specs.Patterns.{currency_pattern, pacs008_pattern, asp_pattern, iban_pattern, within, fits, uetr_pattern}
use Rattle.shape.specs.Stored.{identifier_of, same_uetr, four_from, identifier_text, all_bytes, groups, seven_from, is_uetr, same_identifier, uetr_of}
use Rattle.remainder.specs.Remainder.{is_plain, whole, remainder_of, written}
use Rattle.table.specs.Checks.{order_of}
use Rattle.slip.specs.Answers.{write_after, can_write, holds_slip}
use Rattle.slip.specs.Image.{slip_of as slip_slip_of, slip_number, image}
use Rattle.slip.specs.Meaning.{either_says, six_alone_says, sayings, is_slip, kind_number, status_number}
use Rattle.sheet.specs.Answer.{run, reading_of}
use Rattle.sheet.specs.Grammar.{is_name_byte}
use Rattle.sheet.specs.Machine.{step}
use Rattle.outline.specs.Paths.{same_path, characters_of, standing, at_depth, same_name}
use Rattle.outline.specs.Rows.{inside_at, rows_from, has_ccy, rows_of as outline_rows_of, text_at, ccy_at, name_end, name_at, has_text}
use Rattle.message.specs.Fields.{camt050_fields, pacs008_fields, pacs028_fields, pacs002_fields, fields_of as message_fields_of, numbers_of, body_of}
use Rattle.message.specs.Held.{held_in, stands, kind_named, kind_of, only_kind, held_of}
use Rattle.message.specs.Good.{ccy_fits, text_fits, goes_with, first_bad, has_shape, is_good}
use Rattle.message.specs.Message.{ccy_in, agent_of, reply_of, message_from, start_in, length_in, name_of, text_in, message_of}
use Rattle.message.specs.Received.{received_from, received_in, received_as, received_of}
use Rattle.directory.specs.Directory.{found_from, is_fit, owner_used, found}
use Rattle.layout.specs.Parts.{put, part}
use Rattle.layout.specs.Rows.{account_row, head_row, step_row, step_in, account_in, head_in}
use Rattle.layout.specs.Seat.{head_of, with_step, seat_of, account_of as layout_account_of, with_seat, step_of, with_account, with_head}
use Rattle.seat.specs.Settings.{limit_number, settings_of, opening_limit, opening_settings}
use Rattle.seat.specs.Calls.{no_ticket, account_found, sums_good, pair_good, account_named}
use Rattle.seat.specs.Fit.{seat_fits, closed_fits, closed_seat, open_fits, open_seat, sums_of, open_accounts, room_fits, sums_from, same}
use Rattle.journal.specs.Traces.{earliest, waits_as, leaves, first_in, is_there, is_known}
use Rattle.journal.specs.Results.{fails_by, ends_as, sent_as, told_as, result_fits}
use Rattle.journal.specs.Answers.{answer_from, answer_to, is_answered, waits, result_in, result_now, same_movement, answerable}
use Rattle.journal.specs.Limits.{available_below, turnover_above, blocked_out, blocked_into, turnover_shut}
use Rattle.journal.specs.Steps.{step_fits, no_set, movement_fits, no_movement, moves, is_waiting, closes, same_settings, is_stored, no_uetr, uetr_fits}
use Rattle.journal.specs.Steps.{settings_fit, between, is_movement, reference_fits, receiver_fits, answers_fits, no_message, message_fits, set_fits, is_stored_uetr}
use Rattle.journal.specs.Working.{uneffect, stepped, worked, moved, possible, changed, covered, journal_of, effect, backed, unmoved, steps_from}
use Rattle.judge.specs.Case.{movement_of, account_on, credit_owner, debit_owner, case_of}
use Rattle.judge.specs.Rows.{due_to, accepts, kept_in, movement_for, nothing_due, declines, transfer_declined, refuses, credit_refused}
use Rattle.judge.specs.Rows.{movement_in, is_asp, identifier_repeated, creditor_not_instant, creditor_not_served, debtor_elsewhere, creditor_elsewhere}
use Rattle.judge.specs.Rows.{instructing_not_serving, debtor_not_hryvnia, identifier_bad, debtor_anothers, shows, credit_blocked, iban_wrong}
use Rattle.judge.specs.Rows.{account_at, creditor_not_hryvnia, debtor_unlisted, money_short, created_elsewhen, sender_not_instant, previous_not_serving}
use Rattle.judge.specs.Rows.{original_differs, instructed_no_bank, creditor_no_provider, uetr_repeated, asked_after, amount_foreign, original_unknown}
use Rattle.judge.specs.Rows.{debit_blocked, sender_no_owner, currencies_differ, is_sep, not_from_sender, limit_zero, sender_indirect, creditor_anothers}
use Rattle.judge.specs.Rows.{original_bad, sender_unlisted, digits_wrong, limit_passed, is_one, created_on, differs}
use Rattle.judge.specs.Values.{or_zero, agree}
use Rattle.judge.specs.Verdict.{told_of, fails, step_made, judged_step, verdict, first_failing}
use Rattle.judge.specs.Verdict.{rows_of as judge_rows_of, carried, awaits, outcome, answered, end_of, transferred, sent, step_number, closed_by, step_by}
use Rattle.centre.specs.Answers.{slip_values, is_done, behind}
use Rattle.centre.specs.Calls.{back_told, close_told, set_in, ticket_bad, open_after, read_told as centre_read_told}
use Rattle.centre.specs.Calls.{open_told, set_after, back_after, no_seat, set_told, close_after}
use Rattle.centre.specs.Slips.{write_told, read_told as centre_slips_read_told}
use Rattle.centre.specs.Submit.{step_on, verdict_on, submit_slip, submit_told, not_taken, slip_of as centre_slip_of, submit_after}
use Rattle.demands.specs.Calls.{act_slip, call_room, call_told, act_room, act_told, call_slip}
use Rattle.demands.specs.Seats.{answer_of}
use Rattle.strike.specs.Strike.{events}

unfoldable pub shape-opened : Unit {0}
unfolding is_text is_hex is_capital is_variant is_letter is_digit is_small is_digit_or_capital time_of is_leap time_number days_in is_date day_before
    is_time kopecks amount_of is_identifier names_pacs008 is_iban system_of is_amount currency_of shape_account_of three_bytes message_code_of code_of
    decimal hex_value time_pattern code_pattern message_pattern sep_pattern account_pattern currency_pattern pacs008_pattern asp_pattern iban_pattern
    within fits uetr_pattern identifier_of same_uetr four_from identifier_text all_bytes groups seven_from is_uetr same_identifier uetr_of
shape-opened = tt

unfoldable pub remainder-opened : Unit {0}
unfolding is_plain whole remainder_of written
remainder-opened = tt

unfoldable pub table-opened : Unit {0}
unfolding order_of
table-opened = tt

unfoldable pub slip-opened : Unit {0}
unfolding write_after can_write holds_slip slip_slip_of slip_number image either_says six_alone_says sayings is_slip kind_number
    status_number
slip-opened = tt

unfoldable pub sheet-opened : Unit {0}
unfolding run reading_of is_name_byte step
sheet-opened = tt

unfoldable pub outline-opened : Unit {0}
unfolding same_path characters_of standing at_depth same_name inside_at rows_from has_ccy outline_rows_of text_at ccy_at name_end name_at has_text
outline-opened = tt

unfoldable pub message-opened : Unit {0}
unfolding camt050_fields pacs008_fields pacs028_fields pacs002_fields message_fields_of numbers_of body_of ccy_fits text_fits goes_with first_bad has_shape is_good held_in
    stands
    ccy_in reply_of agent_of message_from start_in length_in name_of text_in message_of received_from kind_named received_in received_as kind_of only_kind received_of held_of
message-opened = tt

unfoldable pub directory-opened : Unit {0}
unfolding found_from is_fit owner_used found
directory-opened = tt

unfoldable pub layout-opened : Unit {0}
unfolding put part account_row head_row step_row step_in account_in head_in head_of with_step seat_of layout_account_of with_seat step_of with_account with_head
layout-opened = tt

unfoldable pub seat-opened : Unit {0}
unfolding no_ticket account_found sums_good pair_good limit_number settings_of opening_limit opening_settings account_named seat_fits closed_fits
    closed_seat open_fits open_seat sums_of open_accounts room_fits sums_from same earliest waits_as leaves first_in is_there is_known fails_by ends_as
    sent_as told_as result_fits
    answer_from answer_to is_answered waits result_in result_now same_movement answerable available_below turnover_above
    blocked_out blocked_into turnover_shut step_fits no_set movement_fits no_movement moves is_waiting closes same_settings is_stored no_uetr uetr_fits
    settings_fit between is_movement reference_fits receiver_fits answers_fits
    no_message message_fits set_fits is_stored_uetr uneffect stepped worked moved possible changed covered journal_of effect backed unmoved steps_from
seat-opened = tt

unfoldable pub judge-opened : Unit {0}
unfolding due_to accepts kept_in movement_for nothing_due declines transfer_declined refuses credit_refused
    movement_in movement_of account_on credit_owner debit_owner case_of is_asp identifier_repeated creditor_not_instant creditor_not_served
    debtor_elsewhere creditor_elsewhere instructing_not_serving debtor_not_hryvnia identifier_bad debtor_anothers shows credit_blocked iban_wrong
    account_at creditor_not_hryvnia debtor_unlisted money_short created_elsewhen sender_not_instant previous_not_serving original_differs
    instructed_no_bank creditor_no_provider uetr_repeated asked_after amount_foreign original_unknown debit_blocked sender_no_owner currencies_differ
    is_sep not_from_sender limit_zero sender_indirect creditor_anothers original_bad sender_unlisted digits_wrong limit_passed is_one created_on
    differs or_zero agree told_of fails step_made judged_step verdict first_failing judge_rows_of carried awaits outcome answered
    end_of transferred sent step_number closed_by step_by
judge-opened = tt

unfoldable pub centre-opened : Unit {0}
unfolding slip_values is_done behind back_told close_told set_in ticket_bad open_after centre_read_told open_told set_after back_after no_seat
    set_told close_after write_told centre_slips_read_told step_on verdict_on submit_slip submit_told not_taken centre_slip_of submit_after
centre-opened = tt

unfoldable pub demands-opened : Unit {0}
unfolding act_slip call_room call_told act_room act_told call_slip answer_of
demands-opened = tt

unfoldable pub strike-opened : Unit {0}
unfolding events
strike-opened = tt

unfoldable pub opened : Unit {0}
unfolding shape-opened remainder-opened table-opened slip-opened sheet-opened outline-opened message-opened
    directory-opened layout-opened seat-opened judge-opened centre-opened demands-opened strike-opened
opened = tt
