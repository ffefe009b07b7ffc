-- Of each call the answer and the room behind it, at each place where it can end: the room is unfit; the room is fit and the directory is not;
-- both are fit and there is no such seat; else what the seat's own call answers and leaves.
-- Assumes nothing.
use Rattle.std.specs.Prelude.{Option, Ok, Err}
use Rattle.std.specs.declared.ops.Range.{Range}
use mathlib.Core.Path.{◌≡◌, refl, sym, ap, subst, ◌∙◌}
use mathlib.Core.Bool.{Bool, true, false, cond, not, ◌&&◌}
use mathlib.Core.List.{List, [], ◌∷◌}
use Prim.Native.Nat.{ℕ, suc, ◌≤◌, ◌<◌}
use lib.Dec.{eqb}
use lib.ListN.{length, replicate}
use borrow.Author.Tests.{eq-eqb, ne_eqb, le-leb, lt-leb}
use Rattle.slip.specs.Meaning.{seats, openings, steps}
use Rattle.directory.specs.declared.Participant.{Participant}
use Rattle.directory.specs.declared.Listed.{Listed}
use Rattle.directory.specs.declared.Gathered.{Gathered}
use Rattle.directory.specs.Directory.{records_most, found, is_fit}
use Rattle.directory.specs.Gathering.{records_in, directory_in, fit_gathered}
use Rattle.directory.proofs.Gathers.{directory-fit, directory-records}
use Rattle.layout.specs.declared.rows.Head.{Head}
use Rattle.layout.specs.declared.rows.Account.{Account}
use Rattle.layout.specs.declared.rows.Settings.{Settings}
use Rattle.layout.specs.Rows.{account_row}
use Rattle.layout.specs.Seat.{seat_long, room_long, head_of, account_of, seat_of, with_seat}
use Rattle.journal.specs.Steps.{settings_fit}
use Rattle.journal.specs.Working.{backed}
use Rattle.seat.specs.declared.calls.Refusal.{Refusal as SeatRefusal}
use Rattle.seat.specs.declared.settings.Wish.{Wish}
use Rattle.seat.specs.Fit.{closed_seat, open_seat, room_fits}
use Rattle.seat.specs.Settings.{settings_of}
use Rattle.seat.specs.Calls.{
  Answer as SeatAnswer,
  gives,
  no_ticket,
  sums_good,
  account_named,
  account_number,
  open_answer,
  close_answer,
  set_answer,
  back_answer,
  read_answer,
  open_after as seat_opened,
  close_after as seat_closed,
  set_after as seat_set,
  back_after as seat_backed,
}
use Rattle.seat.proofs.Rooms.{room-long}
use Rattle.seat.proofs.Undone.{opening-grows}
use Rattle.centre.specs.declared.answers.Done.TheVariants.{Plain, Opened, Holds}
use Rattle.centre.specs.declared.answers.Refusal.TheVariants.{RoomUnfit, DirectoryUnfit, NoTicket}
use Rattle.centre.specs.declared.Ticket.{Ticket}
use Rattle.centre.specs.Answers.{Answer, Told, refused, is_done, behind, told, seat_told}
use Rattle.centre.specs.Calls.{
  no_seat,
  ticket_bad,
  lay_told,
  lay_after,
  open_told,
  open_after,
  close_told,
  close_after,
  set_by,
  set_told,
  set_in,
  set_left,
  set_after,
  back_told,
  back_after,
  read_by,
  read_told,
}
use Rattle.centre.proofs.SeatLent.{Lent, lent_of, back_in, lent-seat, room_back, back-seat}
use Rattle.centre.proofs.Listed.{listed-unfit, directory-is-fit, records-fit, gathered-owner}
use Rattle.centre.proofs.Joined.{close-table, open-table, set-table, back-table, read_table, told_with, room-behind}

-- a call of a seat that is done and gives nothing back
pub plain-told : (a : SeatAnswer) (u : Unit {0}) → a ≡ Ok u → told (Ok Plain) ≡ seat_told a []
unfolding told seat_told
plain-told a u e = rw e

-- one that gives an opening number back
pub opened-told : (a : SeatAnswer) (u : Unit {0}) (opening : ℕ) → a ≡ Ok u → told (Ok (Opened opening)) ≡ seat_told a (opening ∷ [])
unfolding told seat_told
opened-told a u opening e = rw e

-- one that is refused gives nothing back
pub refused-told : (a : SeatAnswer) (refusal : SeatRefusal) (values : List ℕ) (t : Told) → a ≡ Err refusal → t ≡ seat_told (Err refusal) []
    → t ≡ seat_told a values
unfolding seat_told
refused-told a refusal values t e s = rw e s

-- a read of a seat's account
pub read-refused : (a : SeatAnswer) (account : Account) (refusal : SeatRefusal) (t : Told) → gives a account ≡ Err refusal
    → t ≡ seat_told (Err refusal) [] → t ≡ seat_told a (account_row account)
unfolding seat_told
read-refused (Ok u) account refusal t e s = absurd cc
read-refused (Err other) account refusal t e s = let same : other ≡ refusal = cc in rw same s

pub read-holds : (a : SeatAnswer) (account given : Account) → gives a account ≡ Ok given → told (Ok (Holds given)) ≡ seat_told a (account_row account)
unfolding told seat_told
read-holds (Ok u) account given e = let same : given ≡ account = cc in rw same
read-holds (Err other) account given e = absurd cc

-- lay out
pub lay-refused : (room : List ℕ) → (length room ≡ room_long → ⊥) → (told (Err RoomUnfit) ≡ lay_told room) × (room ≡ lay_after room)
unfolding told lay_told lay_after behind is_done
lay-refused room h = (rw (ne_eqb (length room) room_long h), rw (ne_eqb (length room) room_long h))

pub lay_done : (room : List ℕ) → length room ≡ room_long → (u : List ℕ) → u ≡ replicate (length room) 0
    → (told (Ok Plain) ≡ lay_told room) × (u ≡ lay_after room)
unfolding told lay_told lay_after behind is_done
lay_done room h u e = (rw (eq-eqb (length room) room_long h), rw (eq-eqb (length room) room_long h) (e ∙ ap (λ (n : ℕ). replicate n 0) h))

-- close
module _ (ticket : Ticket) (room : List ℕ) where
  pub close-room-unfit : room_fits room ≡ false → (told (Err RoomUnfit) ≡ close_told ticket room) × (room ≡ close_after ticket room)
  unfolding told close_told close_after behind is_done
  close-room-unfit e = (rw e, rw e)

  module _ (fit : room_fits room ≡ true) where
    pub close-no-seat : seats ≤ ticket.seat → (told (Err NoTicket) ≡ close_told ticket room) × (room ≡ close_after ticket room)
    unfolding told close_told close_after behind is_done ticket_bad no_seat
    close-no-seat h = (rw (fit, le-leb seats ticket.seat h), rw (fit, le-leb seats ticket.seat h))

    module _ (h : ticket.seat < seats) where
      close-joined : seat_told (close_answer ticket.opening (seat_of room ticket.seat)) [] ≡ close_told ticket room
      unfolding close_told ticket_bad no_seat close_answer
      close-joined = rw (fit, lt-leb seats ticket.seat h) (close-table (no_ticket ticket.opening (seat_of room ticket.seat)))

      close-put : with_seat room ticket.seat (seat_closed ticket.opening (seat_of room ticket.seat)) ≡ close_after ticket room
      unfolding close_after seat_closed
      close-put =
          room-behind room ticket.seat (room-long room fit) h (closed_seat (head_of (seat_of room ticket.seat)).opening)
          (close_answer ticket.opening (seat_of room ticket.seat)) [] (close_told ticket room) close-joined

  pub close-end : {place : Range ℕ} → Lent room ticket.seat place → (r : Answer) (a : SeatAnswer) (u : List ℕ)
      → a ≡ close_answer ticket.opening (lent_of room place) → u ≡ seat_closed ticket.opening (lent_of room place) → told r ≡ seat_told a []
      → (told r ≡ close_told ticket room) × (back_in room place u ≡ close_after ticket room)
  close-end l r a u e f t = (
    t ∙ ap (λ (b : SeatAnswer). seat_told b []) (e ∙ ap (close_answer ticket.opening) (lent-seat l)) ∙ close-joined l.fit l.low,
    room_back l u ∙ ap (with_seat room ticket.seat) (f ∙ ap (seat_closed ticket.opening) (lent-seat l)) ∙ close-put l.fit l.low,
  )

-- take back
module _ (ticket : Ticket) (room : List ℕ) where
  pub back-room-unfit : room_fits room ≡ false → (told (Err RoomUnfit) ≡ back_told ticket room) × (room ≡ back_after ticket room)
  unfolding told back_told back_after behind is_done
  back-room-unfit e = (rw e, rw e)

  module _ (fit : room_fits room ≡ true) where
    pub back-no-seat : seats ≤ ticket.seat → (told (Err NoTicket) ≡ back_told ticket room) × (room ≡ back_after ticket room)
    unfolding told back_told back_after behind is_done ticket_bad no_seat
    back-no-seat h = (rw (fit, le-leb seats ticket.seat h), rw (fit, le-leb seats ticket.seat h))

    module _ (h : ticket.seat < seats) where
      back-joined : seat_told (back_answer ticket.opening (seat_of room ticket.seat)) [] ≡ back_told ticket room
      unfolding back_told ticket_bad no_seat back_answer
      back-joined =
          rw (fit, lt-leb seats ticket.seat h)
          (back-table (no_ticket ticket.opening (seat_of room ticket.seat)) (eqb (head_of (seat_of room ticket.seat)).steps 0))

      back-put : with_seat room ticket.seat (seat_backed ticket.opening (seat_of room ticket.seat)) ≡ back_after ticket room
      unfolding back_after seat_backed
      back-put =
          room-behind room ticket.seat (room-long room fit) h (backed (seat_of room ticket.seat))
          (back_answer ticket.opening (seat_of room ticket.seat)) [] (back_told ticket room) back-joined

  pub back_end : {place : Range ℕ} → Lent room ticket.seat place → (r : Answer) (a : SeatAnswer) (u : List ℕ)
      → a ≡ back_answer ticket.opening (lent_of room place) → u ≡ seat_backed ticket.opening (lent_of room place) → told r ≡ seat_told a []
      → (told r ≡ back_told ticket room) × (back_in room place u ≡ back_after ticket room)
  back_end l r a u e f t = (
    t ∙ ap (λ (b : SeatAnswer). seat_told b []) (e ∙ ap (back_answer ticket.opening) (lent-seat l)) ∙ back-joined l.fit l.low,
    room_back l u ∙ ap (with_seat room ticket.seat) (f ∙ ap (seat_backed ticket.opening) (lent-seat l)) ∙ back-put l.fit l.low,
  )

-- open, over the list of participants
module _ (dir : List Participant) (k : ℕ) (sums room : List ℕ) where
  open-room-bad : room_fits room ≡ false → (told (Err RoomUnfit) ≡ open_told dir k sums room) × (room ≡ open_after dir k sums room)
  unfolding told open_told open_after behind is_done
  open-room-bad e = (rw e, rw e)

  module _ (fit : room_fits room ≡ true) where
    open-dir-bad : is_fit dir ≡ false → (told (Err DirectoryUnfit) ≡ open_told dir k sums room) × (room ≡ open_after dir k sums room)
    unfolding told open_told open_after behind is_done
    open-dir-bad e = (rw (fit, e), rw (fit, e))

    module _ (listed : is_fit dir ≡ true) where
      open-seat-bad : seats ≤ k → (told (Err NoTicket) ≡ open_told dir k sums room) × (room ≡ open_after dir k sums room)
      unfolding told open_told open_after behind is_done no_seat
      open-seat-bad h = (rw (fit, listed, le-leb seats k h), rw (fit, listed, le-leb seats k h))

      module _ (h : k < seats) where
        open-joined : seat_told (open_answer dir sums (seat_of room k)) (suc (head_of (seat_of room k)).opening ∷ []) ≡ open_told dir k sums room
        unfolding open_told no_seat open_answer
        open-joined =
            rw (fit, listed, lt-leb seats k h)
            (open-table (eqb (head_of (seat_of room k)).opened 1) (eqb (head_of (seat_of room k)).opening openings) (not (sums_good dir sums))
            (suc (head_of (seat_of room k)).opening ∷ []))

        open-put : with_seat room k (seat_opened dir sums (seat_of room k)) ≡ open_after dir k sums room
        unfolding open_after seat_opened
        open-put =
            room-behind room k (room-long room fit) h (open_seat (suc (head_of (seat_of room k)).opening) sums)
            (open_answer dir sums (seat_of room k)) (suc (head_of (seat_of room k)).opening ∷ []) (open_told dir k sums room) open-joined

  -- the head that is read after the call has the new opening number where the call is done
  open_done : is_fit dir ≡ true → {place : Range ℕ} → Lent room k place → (r : Answer) (a : SeatAnswer) (u : List ℕ) (head : Head)
      → a ≡ open_answer dir sums (lent_of room place) → u ≡ seat_opened dir sums (lent_of room place) → length u ≡ seat_long
      → (s : List ℕ) → s ≡ seat_of (back_in room place u) k → head ≡ head_of s → told r ≡ seat_told a (head.opening ∷ [])
      → (told r ≡ open_told dir k sums room) × (back_in room place u ≡ open_after dir k sums room)
  open_done listed l r a u head e f long s again read t =
      let answer : a ≡ open_answer dir sums (seat_of room k) = e ∙ ap (open_answer dir sums) (lent-seat l) in
      let left : u ≡ seat_opened dir sums (seat_of room k) = f ∙ ap (seat_opened dir sums) (lent-seat l) in
      let now : head ≡ head_of (seat_opened dir sums (seat_of room k)) = read ∙ ap head_of (again ∙ back-seat l u long ∙ left) in (
        t ∙ told_with a (head.opening ∷ []) (suc (head_of (seat_of room k)).opening ∷ [])
            (λ (d : a ≡ Ok tt). ap (λ (n : ℕ). n ∷ [])
            (ap (λ (x : Head). x.opening) now ∙ opening-grows dir sums (seat_of room k) (sym answer ∙ d)))
            ∙ ap (λ (b : SeatAnswer). seat_told b (suc (head_of (seat_of room k)).opening ∷ [])) answer
            ∙ open-joined l.fit listed l.low,
        room_back l u ∙ ap (with_seat room k) left ∙ open-put l.fit listed l.low,
      )

-- open, with the directory as it was gathered
module _ (g : Gathered) (k : ℕ) (sums room : List ℕ) where
  pub open-room-unfit : room_fits room ≡ false
      → (told (Err RoomUnfit) ≡ open_told (directory_in g) k sums room) × (room ≡ open_after (directory_in g) k sums room)
  open-room-unfit e = open-room-bad (directory_in g) k sums room e

  module _ (fit : room_fits room ≡ true) (full : length g.records ≡ records_most) where
    pub open-unlisted : fit_gathered g ≡ false
        → (told (Err DirectoryUnfit) ≡ open_told (directory_in g) k sums room) × (room ≡ open_after (directory_in g) k sums room)
    open-unlisted e = open-dir-bad (directory_in g) k sums room fit (listed-unfit g full e)

    module _ (listed : fit_gathered g ≡ true) where
      pub open-no-seat : seats ≤ k → (told (Err NoTicket) ≡ open_told (directory_in g) k sums room) × (room ≡ open_after (directory_in g) k sums room)
      open-no-seat h = open-seat-bad (directory_in g) k sums room fit (directory-is-fit g full listed) h

  pub open-end : length g.records ≡ records_most → fit_gathered g ≡ true → {place : Range ℕ} → Lent room k place
      → (r : Answer) (a : SeatAnswer) (u : List ℕ) (head : Head)
      → a ≡ open_answer (records_in g) sums (lent_of room place) → u ≡ seat_opened (records_in g) sums (lent_of room place) → length u ≡ seat_long
      → (s : List ℕ) → s ≡ seat_of (back_in room place u) k → head ≡ head_of s → told r ≡ seat_told a (head.opening ∷ [])
      → (told r ≡ open_told (directory_in g) k sums room) × (back_in room place u ≡ open_after (directory_in g) k sums room)
  open-end full listed {place} l r a u head e f long s again read t =
      subst (λ (dir : List Participant). (told r ≡ open_told dir k sums room) × (back_in room place u ≡ open_after dir k sums room))
      (sym (directory-records g listed))
      (open_done (records_in g) k sums room (records-fit g full listed) l r a u head e f long s again read t)

-- set, by what was found of the owner in a directory that is fit or not
module _ (fit : Bool) (owner : Option Listed) (ticket : Ticket) (number : ℕ) (wish : Wish) (room : List ℕ) where
  pub set-room-unfit : room_fits room ≡ false
      → (told (Err RoomUnfit) ≡ set_by fit owner ticket number wish room) × (room ≡ set_left fit owner ticket number wish room)
  unfolding told behind is_done
  set-room-unfit e = (rw e, rw e)

  module _ (good : room_fits room ≡ true) where
    pub set-unlisted : fit ≡ false
        → (told (Err DirectoryUnfit) ≡ set_by fit owner ticket number wish room) × (room ≡ set_left fit owner ticket number wish room)
    unfolding told behind is_done
    set-unlisted e = (rw (good, e), rw (good, e))

    module _ (listed : fit ≡ true) where
      pub set-no-seat : seats ≤ ticket.seat
          → (told (Err NoTicket) ≡ set_by fit owner ticket number wish room) × (room ≡ set_left fit owner ticket number wish room)
      unfolding told behind is_done ticket_bad no_seat
      set-no-seat h = (rw (good, listed, le-leb seats ticket.seat h), rw (good, listed, le-leb seats ticket.seat h))

      module _ (h : ticket.seat < seats) where
        set-joined : seat_told (set_answer ticket.opening owner number (settings_of wish) (seat_of room ticket.seat)) []
            ≡ set_by fit owner ticket number wish room
        unfolding ticket_bad no_seat set_answer
        set-joined =
            rw (good, listed, lt-leb seats ticket.seat h)
            (set-table (no_ticket ticket.opening (seat_of room ticket.seat))
            (not (account_named owner number && settings_fit (settings_of wish)))
            (eqb (head_of (seat_of room ticket.seat)).steps steps))

        set-put : with_seat room ticket.seat
            (seat_set ticket.opening owner number (settings_of wish) (seat_of room ticket.seat))
            ≡ set_left fit owner ticket number wish room
        unfolding seat_set set_in
        set-put =
            room-behind room ticket.seat (room-long room good) h (set_in (account_number owner number) wish (seat_of room ticket.seat))
            (set_answer ticket.opening owner number (settings_of wish) (seat_of room ticket.seat)) []
            (set_by fit owner ticket number wish room) set-joined

  pub set-end : fit ≡ true → {place : Range ℕ} → Lent room ticket.seat place
      → (r : Answer) (a : SeatAnswer) (u : List ℕ) (given : Settings) → given ≡ settings_of wish
      → a ≡ set_answer ticket.opening owner number given (lent_of room place)
      → u ≡ seat_set ticket.opening owner number given (lent_of room place) → told r ≡ seat_told a []
      → (told r ≡ set_by fit owner ticket number wish room) × (back_in room place u ≡ set_left fit owner ticket number wish room)
  set-end listed l r a u given q e left t = (
    t ∙ ap (λ (b : SeatAnswer). seat_told b [])
        (e ∙ ap (set_answer ticket.opening owner number given) (lent-seat l)
        ∙ ap (λ (x : Settings). set_answer ticket.opening owner number x (seat_of room ticket.seat)) q)
        ∙ set-joined l.fit listed l.low,
    room_back l u
        ∙ ap (with_seat room ticket.seat)
        (left ∙ ap (seat_set ticket.opening owner number given) (lent-seat l)
        ∙ ap (λ (x : Settings). seat_set ticket.opening owner number x (seat_of room ticket.seat)) q)
        ∙ set-put l.fit listed l.low,
  )

-- where the directory is not fit, the room is refused or the directory is: the owner does not matter
refused-both : (good : Bool) (made other came : List ℕ)
    → behind (cond (not good) (refused 1) (refused 2)) made came ≡ behind (cond (not good) (refused 1) (refused 2)) other came
unfolding behind is_done
refused-both true made other came = refl
refused-both false made other came = refl

module _ (ticket : Ticket) (number : ℕ) (wish : Wish) (room : List ℕ) where
  set-told-same : (fit : Bool) (f owner : Option Listed) → (fit ≡ true → f ≡ owner)
      → set_by fit f ticket number wish room ≡ set_by fit owner ticket number wish room
  set-told-same true f owner e = ap (λ (x : Option Listed). set_by true x ticket number wish room) (e refl)
  set-told-same false f owner e = refl

  set-left-same : (fit : Bool) (f owner : Option Listed) → (fit ≡ true → f ≡ owner)
      → set_left fit f ticket number wish room ≡ set_left fit owner ticket number wish room
  set-left-same true f owner e = ap (λ (x : Option Listed). set_left true x ticket number wish room) (e refl)
  set-left-same false f owner e =
      refused-both (room_fits room)
      (with_seat room ticket.seat (set_in (account_number f number) wish (seat_of room ticket.seat)))
      (with_seat room ticket.seat (set_in (account_number owner number) wish (seat_of room ticket.seat))) room

  -- set, with the directory as it was gathered
  pub set-gathered : (g : Gathered) → length g.records ≡ records_most → (owner : ℕ) (fit : Bool) (f : Option Listed) → fit ≡ fit_gathered g
      → f ≡ found (records_in g) owner → (r : Answer) (u : List ℕ)
      → (told r ≡ set_by fit f ticket number wish room) × (u ≡ set_left fit f ticket number wish room)
      → (told r ≡ set_told (directory_in g) ticket owner number wish room) × (u ≡ set_after (directory_in g) ticket owner number wish room)
  unfolding set_told set_after
  set-gathered g full owner fit f p q r u e =
      let owned : (Option Listed) = found (directory_in g) owner in
      let same : fit ≡ is_fit (directory_in g) = p ∙ directory-fit g full in
      let known : fit ≡ true → f ≡ owned = gathered-owner g owner fit f p q in (
        e.0 ∙ set-told-same fit f owned known ∙ ap (λ (b : Bool). set_by b owned ticket number wish room) same,
        e.1 ∙ set-left-same fit f owned known ∙ ap (λ (b : Bool). set_left b owned ticket number wish room) same,
      )

-- read, by what was found of the owner in a directory that is fit or not
module _ (fit : Bool) (owner : Option Listed) (ticket : Ticket) (number : ℕ) (room : List ℕ) where
  pub read-room-unfit : room_fits room ≡ false → told (Err RoomUnfit) ≡ read_by fit owner ticket number room
  unfolding told
  read-room-unfit e = rw e

  module _ (good : room_fits room ≡ true) where
    pub read-unlisted : fit ≡ false → told (Err DirectoryUnfit) ≡ read_by fit owner ticket number room
    unfolding told
    read-unlisted e = rw (good, e)

    module _ (listed : fit ≡ true) where
      pub read-no-seat : seats ≤ ticket.seat → told (Err NoTicket) ≡ read_by fit owner ticket number room
      unfolding told ticket_bad no_seat
      read-no-seat h = rw (good, listed, le-leb seats ticket.seat h)

      module _ (h : ticket.seat < seats) where
        abbrev account_read : Account
        account_read = account_of (seat_of room ticket.seat) (account_number owner number)

        read-joined : seat_told (read_answer ticket.opening owner number (seat_of room ticket.seat)) (account_row account_read)
            ≡ read_by fit owner ticket number room
        unfolding ticket_bad no_seat read_answer
        read-joined =
            rw (good, listed, lt-leb seats ticket.seat h)
            (read_table (no_ticket ticket.opening (seat_of room ticket.seat)) (not (account_named owner number)) (account_row account_read))

        pub read-end : (s : List ℕ) → s ≡ seat_of room ticket.seat → (r : Answer)
            → told r ≡ seat_told (read_answer ticket.opening owner number s) (account_row (account_of s (account_number owner number)))
            → told r ≡ read_by fit owner ticket number room
        read-end s here r t =
            t ∙ ap (λ (x : List ℕ). seat_told (read_answer ticket.opening owner number x) (account_row (account_of x (account_number owner number)))) here
            ∙ read-joined

module _ (ticket : Ticket) (number : ℕ) (room : List ℕ) where
  read-told-same : (fit : Bool) (f owner : Option Listed) → (fit ≡ true → f ≡ owner)
      → read_by fit f ticket number room ≡ read_by fit owner ticket number room
  read-told-same true f owner e = ap (λ (x : Option Listed). read_by true x ticket number room) (e refl)
  read-told-same false f owner e = refl

  -- read, with the directory as it was gathered
  pub read-gathered : (g : Gathered) → length g.records ≡ records_most → (owner : ℕ) (fit : Bool) (f : Option Listed) → fit ≡ fit_gathered g
      → f ≡ found (records_in g) owner → (r : Answer) → told r ≡ read_by fit f ticket number room
      → told r ≡ read_told (directory_in g) ticket owner number room
  unfolding read_told
  read-gathered g full owner fit f p q r e =
      let owned : (Option Listed) = found (directory_in g) owner in
      e ∙ read-told-same fit f owned (gathered-owner g owner fit f p q)
      ∙ ap (λ (b : Bool). read_by b owned ticket number room) (p ∙ directory-fit g full)
