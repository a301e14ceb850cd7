-- The numbers of the profile: how much of each thing there is at most, and how long it is waited for or kept.
use Rattle.std.specs.Prelude.{ℕ, ◌+◌, ◌*◌}

-- Names

-- How many bytes a label has at most (RFC 1035, 2.3.4).
abbrev pub longest_label : ℕ
longest_label = 63

-- How many bytes a name has at most on the wire (RFC 1035, 2.3.4).
abbrev pub longest_name : ℕ
longest_name = 255

-- How many bytes of a name and pointers in it are read at most.
abbrev pub most_name_steps : ℕ
most_name_steps = 999

-- Messages

-- How many bytes a message has at most, since its length in a stream has two bytes (RFC 1035, 4.2.2).
abbrev pub longest_packet : ℕ
longest_packet = 65535

-- How many bytes a datagram between a server and its client has at most (RFC 1035, 2.3.4).
abbrev pub longest_datagram : ℕ
longest_datagram = 512

-- How many bytes of a client's datagram are looked at (after djbdns' dnscache.c).
abbrev pub longest_request : ℕ
longest_request = 1023

-- How many bytes of a client's stream are gathered: a length and the longest message.
abbrev pub longest_gathered : ℕ
longest_gathered = longest_packet + 2

-- How many names a reply's pointers lead to at most (after djbdns' response.c).
abbrev pub most_suffixes : ℕ
most_suffixes = 100

-- How many bytes such a name has at most.
abbrev pub longest_suffix : ℕ
longest_suffix = 128

-- The cache

-- How many bytes a cache has at least and at most (after djbdns' cache.c).
abbrev pub least_cache : ℕ
least_cache = 100

abbrev pub most_cache : ℕ
most_cache = 1000000000

-- How many bytes an entry's key has at most.
abbrev pub longest_key : ℕ
longest_key = 1000

-- How many bytes an entry's body has at most.
abbrev pub longest_body : ℕ
longest_body = 1000000

-- How many entries of a bucket are looked at.
abbrev pub most_searched : ℕ
most_searched = 101

-- How many bytes a packet's group of records has at most, to be put (after djbdns' query.c).
abbrev pub longest_group : ℕ
longest_group = 8192

-- Lifetimes, in seconds

-- An entry is kept a week at most.
abbrev pub longest_kept : ℕ
longest_kept = 604800

-- A greater TTL counts as none (after djbdns' query.c, ttlget).
abbrev pub most_ttl : ℕ
most_ttl = 1000000000

-- That something isn't there is kept an hour at most.
abbrev pub longest_negative : ℕ
longest_negative = 3600

-- The TTL of what is built in (after djbdns' query.c).
abbrev pub lasting : ℕ
lasting = 655360

-- Rules

-- How many zones are configured at most.
abbrev pub most_zones : ℕ
most_zones = 256

-- How many permissions there are at most.
abbrev pub most_permissions : ℕ
most_permissions = 4096

-- A query

-- How many places there are for a zone's servers (after djbdns' query.h).
abbrev pub most_places : ℕ
most_places = 16

-- How many frames a query has at most (after djbdns' query.h, QUERY_MAXLEVEL).
abbrev pub most_levels : ℕ
most_levels = 5

-- How many server names a frame has at most (after djbdns' query.h, QUERY_MAXNS).
abbrev pub most_hosts : ℕ
most_hosts = 16

-- How many aliases a query follows at most (after djbdns' query.h, QUERY_MAXALIAS).
abbrev pub most_aliases : ℕ
most_aliases = 16

-- How many times a query looks at a name at most (after djbdns' query.c, loop).
abbrev pub most_turns : ℕ
most_turns = 100

-- More rows than a turn comes to.
abbrev pub most_rows : ℕ
most_rows = 4000

-- Clients

-- How many queries of clients over UDP are active at most (after djbdns' dnscache.c, MAXUDP).
abbrev pub most_queries : ℕ
most_queries = 200

-- How many connections of clients are open at most (after djbdns' dnscache.c, MAXTCP).
abbrev pub most_connections : ℕ
most_connections = 20

-- How many queries are active at most: those over UDP, and one on each connection.
abbrev pub most_active : ℕ
most_active = most_queries + most_connections

-- And with the one that begins.
abbrev pub most_works : ℕ
most_works = most_active + 1

-- How many sockets for connections and links there are beyond those that the core uses.
abbrev pub spare_sockets : ℕ
spare_sockets = 4

-- How many sockets there are for connections of clients.
abbrev pub most_seats : ℕ
most_seats = most_connections + spare_sockets

-- How many sockets there are for links to servers.
abbrev pub most_links : ℕ
most_links = most_active + spare_sockets

-- Waits, in milliseconds

-- How long a server is given over UDP, round by round (after djbdns' dns_transmit.c, timeouts).
abbrev pub first_wait : ℕ
first_wait = 1000

abbrev pub second_wait : ℕ
second_wait = 3000

abbrev pub third_wait : ℕ
third_wait = 11000

abbrev pub fourth_wait : ℕ
fourth_wait = 45000

-- How many tries there are over UDP at most: four rounds over all places.
abbrev pub most_udp_tries : ℕ
most_udp_tries = 4 * most_places

-- How long a server is given over TCP.
abbrev pub tcp_wait : ℕ
tcp_wait = 10000

-- How long a client's connection may be idle (after djbdns' dnscache.c).
abbrev pub client_wait : ℕ
client_wait = 10000

-- So many refusals of a local port are borne, and the next ends the transmission.
abbrev pub most_refusals : ℕ
most_refusals = 9
