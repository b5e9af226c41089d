pub mod CountLaws
pub mod ValidLaws
pub mod ClassAccepted
pub mod ClassDecoded
pub mod XListAccepted
pub mod Decoded
pub mod Laws
