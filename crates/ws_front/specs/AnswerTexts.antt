-- The bytes of an answer to the head of an HTTP request.
use Rattle.std.specs.Prelude.{◌++◌, codes, decimal, length}
use Rattle.byte_text.specs.Names.{Bytes}
use Rattle.ws_front.specs.declared.heads.Answer.{Answer}
use Rattle.ws_front.specs.declared.heads.Answer.TheVariants as answer

-- the head that makes a link a WebSocket (RFC 6455, 4.2.2)
abbrev pub accept_text : Bytes → Bytes
accept_text key =
    codes "HTTP/1.1 101 Switching Protocols\r\nUpgrade: websocket\r\nConnection: Upgrade\r\n" ++ codes "Sec-WebSocket-Accept: " ++ key ++ codes "\r\n\r\n"

-- a status, a kind of text and a body, behind which the link ends
abbrev pub whole_text : Bytes → Bytes → Bytes → Bytes
whole_text status kind body =
    codes "HTTP/1.1 " ++ status ++ codes "\r\nContent-Type: " ++ kind ++ codes "; charset=utf-8\r\nContent-Length: " ++ decimal (length body)
    ++ codes "\r\nCache-Control: no-cache\r\nX-Content-Type-Options: nosniff\r\n"
    ++ codes "X-Frame-Options: DENY\r\nSec-WebSocket-Version: 13\r\nConnection: close\r\n\r\n" ++ body

abbrev pub answer_text : Answer → Bytes → Bytes
answer_text (answer.WebSocket key) page = accept_text key
answer_text answer.Page page = whole_text (codes "200 OK") (codes "text/html") page
answer_text answer.BadRequest page = whole_text (codes "400 Bad Request") (codes "text/plain") (codes "This is no request for the page or a WebSocket.\n")
answer_text answer.Forbidden page = whole_text (codes "403 Forbidden") (codes "text/plain") (codes "This origin was not named to the server.\n")
answer_text answer.NotFound page = whole_text (codes "404 Not Found") (codes "text/plain") (codes "There is one page, at /.\n")
